-- `fixed::is_letter` meets its contract. Assumes nothing.
use mathlib.Core.Path.{refl}
use Rattle.fixed.specs.Fixed.{letter_ok}
use Rattle.fixed.proofs.is_letter.Goals as goal

pub returns : goal.returns
unfolding letter_ok
returns c = refl
