-- `archive::put_zoom` meets its contract: the whole hundredths, then those behind the point. Assumes nothing.
use mathlib.Core.Path.{refl}
use native.Mathlib.Omega.{arith}
use Rattle.laws.proofs.OverLaws.{last, next, run}
use Rattle.digits.specs.Digits.{digits}
use Rattle.archive.specs.Old.{old_zoom}
use Rattle.archive.proofs.put_zoom.Goals as goal

pub returns : goal.returns
unfolding old_zoom digits
returns c =
    run (next _ c.put_tagged.ensures refl (last _ c.put_tagged-2.ensures refl)) (omega (arith, c.requires))
