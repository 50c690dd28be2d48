-- `fixed::is_lens` meets its contract: test by test, as `are_settings`. Assumes nothing.
use mathlib.Core.Path.{refl}
use Rattle.fixed.specs.Fixed.{lens_lowest}
use Rattle.fixed.proofs.Fine.{fine_here, fine_last}
use Rattle.fixed.proofs.is_lens.Goals as goal

pub returns : goal.returns
unfolding lens_lowest
returns c =
    fine_here 2 _ c.is_kind.ensures
    (fine_here 3 _ refl (fine_here 4 _ refl (fine_here 5 _ c.is_letter.ensures (fine_last 6 refl))))
