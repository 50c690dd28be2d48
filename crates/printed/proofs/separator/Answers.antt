-- `printed::separator` meets its contract: the branch is the test of `separator`. Assumes nothing.
use borrow.Author.Tests.{eq-eqb, ne_eqb}
use Rattle.printed.specs.Printed.{separator}
use Rattle.printed.proofs.separator.Goals as goal

pub returns-then-left-eq0 : goal.returns-then-left-eq0
unfolding separator
returns-then-left-eq0 c = rw (eq-eqb _ _ c.if-left-eq0.true)

pub returns-else-left-eq0 : goal.returns-else-left-eq0
unfolding separator
returns-else-left-eq0 c = rw (ne_eqb _ _ c.if-left-eq0.false)
