-- `units::size_in` meets its contract: each `return` is a case of `size_in`, the sums fit below 2^32, and `reciprocal` divides them. Assumes nothing.
use mathlib.Core.Path.{refl}
use native.Mathlib.Omega.{arith}
use borrow.Author.Tests.{eq-eqb, ne_eqb}
use Rattle.laws.proofs.Tests.{yes, no}
use Rattle.units.specs.Units.{by_unit, size_in}
use Rattle.units.proofs.Reciprocal.{reciprocal}
use Rattle.units.proofs.size_in.Goals as goal

pub returns-then-unit-wanted : goal.returns-then-unit-wanted
unfolding size_in
returns-then-unit-wanted c = yes _ (eq-eqb _ _ c.if-unit-wanted.true) refl

-- 100 times its reciprocal is 56 more than 2^38
pub returns-then-unit-eq73 : goal.returns-then-unit-eq73
unfolding size_in by_unit
returns-then-unit-eq73 c = no _ (ne_eqb _ _ c.if-unit-wanted.false) (yes _ (eq-eqb _ _ c.if-unit-eq73.true) (reciprocal _ 100 _ _ 56 (omega arith) refl (omega arith)))

-- 254 times its reciprocal is 246 more
pub returns : goal.returns
unfolding size_in by_unit
returns c = no _ (ne_eqb _ _ c.if-unit-wanted.false) (no _ (ne_eqb _ _ c.if-unit-eq73.false) (reciprocal _ 254 _ _ 246 (omega arith) refl (omega arith)))
