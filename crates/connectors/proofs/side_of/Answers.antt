-- `connectors::side_of` meets its contract: number by number. Assumes nothing.
use mathlib.Core.Path.{refl}
use borrow.Author.Tests.{ne_eqb}
use Rattle.laws.proofs.Tests.{at, no}
use Rattle.connectors.specs.Connectors.{side_of}
use Rattle.connectors.proofs.side_of.Goals as goal

pub returns-in-0 : goal.returns-in-0
unfolding side_of
returns-in-0 c = at side_of c.in-0.is refl

pub returns-in-1 : goal.returns-in-1
unfolding side_of
returns-in-1 c = at side_of c.in-1.is refl

pub returns-in_default : goal.returns-in_default
unfolding side_of
returns-in_default c = let r = c.in_default.in_default-own.rest in no _ (ne_eqb _ 0 r.0.1) (no _ (ne_eqb _ 1 r.1) refl)
