-- `units::shown_distance` meets its contract: a return for each case. Assumes nothing.
use mathlib.Core.Path.{refl}
use borrow.Author.Tests.{le-leb, lt-leb}
use Rattle.laws.proofs.Tests.{yes, no}
use Rattle.units.specs.Measurement.{shown_distance}
use Rattle.units.proofs.shown_distance.Goals as goal

pub returns-then-n-gt9999999 : goal.returns-then-n-gt9999999
unfolding shown_distance
returns-then-n-gt9999999 c = no _ (lt-leb _ _ c.if-n-gt9999999.true) refl

pub returns : goal.returns
unfolding shown_distance
returns c = yes _ (le-leb _ _ c.if-n-gt9999999.false) c.size_in.ensures
