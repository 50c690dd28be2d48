use mathlib.Core.Bool.{◌&&◌}
use mathlib.Core.Path.{◌≡◌}
use lib.ListN.{drop}
use Rattle.fixed.specs.Fixed.{blur_ok}
use Rattle.fixed.proofs.is_blur.Given as goal

abbrev pub invariant-loop-circle : goal.invariant-loop-circle
invariant-loop-circle l = blur_ok l.s ≡ (l.all && blur_ok (drop l.circle-index l.s))
