-- What may be set: document 01's items and their ranges. The answer is the lowest item out of range, 0 where there is none.
use Rattle.std.specs.Prelude.{ℕ, Bool, ◌&&◌, ◌||◌, List, leb, eqb, length, replicate}
use Rattle.laws.specs.Every.{every}
use Rattle.codec.specs.Codec.{failing, first, text_ok, filled}
use Rattle.fixed.specs.declared.Fixed.{Fixed}
use Rattle.fixed.specs.declared.Lens.{Lens}
use Rattle.fixed.specs.declared.Settings.{Settings}

-- P or Z
unfoldable pub kind_ok : ℕ → Bool
kind_ok b = eqb b 80 || eqb b 90

-- I, M, B or b
unfoldable pub letter_ok : ℕ → Bool
letter_ok b = eqb b 73 || eqb b 77 || eqb b 66 || eqb b 98

-- blur circles of 0..999
abbrev pub blur_ok : List ℕ → Bool
blur_ok s = every (λ x. leb x 999) s

-- items 3 to 7
unfoldable pub lens_lowest : Lens → ℕ
lens_lowest l =
    first (failing (kind_ok l.kind) 3)
    (first (failing (leb l.focal 999) 4)
    (first (failing (leb l.maximum 999) 5)
    (first (failing (letter_ok l.letter) 6)
    (failing (leb l.transmission 99) 7))))

-- items 1 to 8
unfoldable pub fixed_lowest : Fixed → ℕ
fixed_lowest f =
    first (failing (text_ok 9 f.serial) 1)
    (first (failing (text_ok 31 f.owner) 2)
    (first (lens_lowest f.lens)
    (failing (text_ok 4 f.version) 8)))

-- items 1 to 11
unfoldable pub settings_lowest : Settings → ℕ
settings_lowest s =
    first (fixed_lowest s.fixed)
    (first (failing (text_ok 15 s.maker) 9)
    (first (failing (text_ok 30 s.type_name) 10)
    (failing (eqb (length s.blur) 32 && blur_ok s.blur) 11)))

-- the items put together
abbrev pub fixed_of : List ℕ → List ℕ → Lens → List ℕ → Fixed
fixed_of serial owner l version = record { serial = serial; owner = owner; lens = l; version = version }

-- the items put together, each text as long as its item: one of another length is left as zeros
abbrev pub fixed_filled : List ℕ → List ℕ → Lens → List ℕ → Fixed
fixed_filled serial owner l version = fixed_of (filled 9 serial) (filled 31 owner) l (filled 4 version)

-- ---- zeros

abbrev pub no_fixed : Fixed
no_fixed = record {
  serial = replicate 9 0;
  owner = replicate 31 0;
  lens = record { kind = 0; focal = 0; maximum = 0; letter = 0; transmission = 0 };
  version = replicate 4 0;
}
