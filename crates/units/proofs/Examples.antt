-- What the conversion refuses, and in which order, computed. (What it answers is in the table of starred figures.) Assumes nothing.
use mathlib.Core.Path.{◌≡◌, refl}
use lib.IntN.{pos, negsuc}
use Rattle.std.specs.Prelude.{Err}
use Rattle.refusal.specs.Answer.{unless}
use Rattle.refusal.specs.declared.Refusal.TheVariants.{Field}
use Rattle.units.specs.Units.{by_unit, size_in, number_in, in_range, conversion}

-- an imperial 3,937,008; a field that is not one of the five; a distance below zero, alike letters too; a bad letter before a bad field
pub bench_refused :
    (conversion 1 (pos 3937008) 73 77 ≡ Err (Field 1))
    × (conversion 5 (pos 25) 73 77 ≡ Err (Field 5))
    × (conversion 6 (negsuc 0) 77 77 ≡ Err (Field 6))
    × (conversion 5 (pos 25) 73 105 ≡ Err (Field 0))
unfolding by_unit size_in number_in in_range conversion unless
bench_refused = (refl, refl, refl, refl)
