-- `units::by_unit` meets its contract. Assumes nothing.
use mathlib.Core.Path.{refl}
use borrow.Author.Tests.{eq-eqb, ne_eqb}
use Rattle.laws.proofs.Tests.{yes, no}
use Rattle.units.specs.Units.{by_unit}
use Rattle.units.proofs.by_unit.Goals as goal

pub returns-then-u-eq73 : goal.returns-then-u-eq73
unfolding by_unit
returns-then-u-eq73 c = yes _ (eq-eqb _ _ c.if-u-eq73.true) refl

pub returns-else-u-eq73 : goal.returns-else-u-eq73
unfolding by_unit
returns-else-u-eq73 c = no _ (ne_eqb _ _ c.if-u-eq73.false) refl
