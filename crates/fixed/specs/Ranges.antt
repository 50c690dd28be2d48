-- Document 01's items and their ranges, one by one. Letters stand as their bytes: 80 is P.
use Rattle.std.specs.Prelude.{◌&&◌, ◌||◌, [], ◌∷◌, ◌++◌, leb, eqb, length}
use Rattle.laws.specs.Every.{every}
use Rattle.codec.specs.Codec.{text_ok}
use Rattle.codec.specs.Ranges.{Ranges}
use Rattle.fixed.specs.declared.Fixed.{Fixed}
use Rattle.fixed.specs.declared.Settings.{Settings}

-- items 1 to 8
abbrev pub fixed_ranges : Fixed → Ranges
fixed_ranges f =
    (1, text_ok 9 f.serial)
    ∷ (2, text_ok 31 f.owner)
    ∷ (3, eqb f.lens.kind 80 || eqb f.lens.kind 90)
    ∷ (4, leb f.lens.focal 999)
    ∷ (5, leb f.lens.maximum 999)
    ∷ (6, eqb f.lens.letter 73 || eqb f.lens.letter 77 || eqb f.lens.letter 66 || eqb f.lens.letter 98)
    ∷ (7, leb f.lens.transmission 99)
    ∷ (8, text_ok 4 f.version)
    ∷ []

-- and items 9 to 11
abbrev pub settings_ranges : Settings → Ranges
settings_ranges s =
    fixed_ranges s.fixed
    ++ (9, text_ok 15 s.maker) ∷ (10, text_ok 30 s.type_name) ∷ (11, eqb (length s.blur) 32 && every (λ x. leb x 999) s.blur) ∷ []
