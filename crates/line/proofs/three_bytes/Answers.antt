-- `line::three_bytes` meets its contract: its tests are those of `three_bytes`. Assumes nothing.
use mathlib.Core.Path.{refl}
use borrow.Author.Tests.{eq-eqb, ne_eqb}
use Rattle.laws.proofs.Tests.{yes, no}
use Rattle.line.specs.Command.{three_bytes}
use Rattle.line.proofs.three_bytes.Goals as goal

pub returns-then-a-b : goal.returns-then-a-b
unfolding three_bytes
returns-then-a-b c = yes _ c.if-a-b.true c.after_kb.ensures

pub returns-then-a-eq87 : goal.returns-then-a-eq87
unfolding three_bytes
returns-then-a-eq87 c = no _ c.if-a-b.false (yes _ (eq-eqb _ _ c.if-a-eq87.true) c.after_w.ensures)

pub returns : goal.returns
unfolding three_bytes
returns c = no _ c.if-a-b.false (no _ (ne_eqb _ _ c.if-a-eq87.false) refl)
