-- The contents of the N message: a table of the items in order, each behind its tag. Letters stand as their bytes: 78 is N.
use Rattle.std.specs.Prelude.{ℕ, List}
use Rattle.codec.specs.Codec.{Codec, number, text, letter, tagged, ◌⊗◌, via_iso}
use Rattle.fixed.specs.Fixed.{kind_ok, letter_ok, fixed_of}
use Rattle.fixed.specs.declared.Fixed.{Fixed}
use Rattle.fixed.specs.declared.Lens.{Lens}

-- N, S
unfoldable pub serial : Codec (List ℕ)
serial = tagged 78 1 (tagged 83 1 (text 1 9))

-- O
unfoldable pub owner : Codec (List ℕ)
owner = tagged 79 2 (text 2 31)

abbrev pub LensParts : Type 0
LensParts = ℕ × (ℕ × (ℕ × (ℕ × ℕ)))

abbrev pub lens_of : LensParts → Lens
lens_of p = record { kind = p.0; focal = p.1.0; maximum = p.1.1.0; letter = p.1.1.1.0; transmission = p.1.1.1.1 }

abbrev pub lens_parts : Lens → LensParts
lens_parts l = (l.kind, (l.focal, (l.maximum, (l.letter, l.transmission))))

-- L, N, M, U, T
unfoldable pub lens_items : Codec Lens
lens_items =
    via_iso lens_of lens_parts
    (tagged 76 3 (letter 3 kind_ok)
    ⊗ (tagged 78 4 (number 4 10 48 3 999)
    ⊗ (tagged 77 5 (number 5 10 48 3 999)
    ⊗ (tagged 85 6 (letter 6 letter_ok)
    ⊗ tagged 84 7 (number 7 10 48 2 99)))))

-- two spaces, B
unfoldable pub version : Codec (List ℕ)
version = tagged 32 8 (tagged 32 8 (tagged 66 8 (text 8 4)))

abbrev pub Parts : Type 0
Parts = List ℕ × (List ℕ × (Lens × List ℕ))

abbrev pub of_parts : Parts → Fixed
of_parts p = fixed_of p.0 p.1.0 p.1.1.0 p.1.1.1

abbrev pub parts_of : Fixed → Parts
parts_of f = (f.serial, (f.owner, (f.lens, f.version)))

-- how many bytes the contents of the N message take
abbrev pub fixed_length : ℕ
fixed_length = 65

-- the fixed data as text
unfoldable pub fixed_form : Codec Fixed
fixed_form = via_iso of_parts parts_of (serial ⊗ (owner ⊗ (lens_items ⊗ version)))
