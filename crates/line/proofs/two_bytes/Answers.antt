-- `line::two_bytes` meets its contract: its test is the one of `two_bytes`. Assumes nothing.
use mathlib.Core.Path.{refl}
use borrow.Author.Tests.{eq-eqb, ne_eqb}
use Rattle.laws.proofs.Tests.{yes, no}
use Rattle.line.specs.Command.{two_bytes}
use Rattle.line.proofs.two_bytes.Goals as goal

pub returns-then-a-eq75 : goal.returns-then-a-eq75
unfolding two_bytes
returns-then-a-eq75 c = yes _ (eq-eqb _ _ c.if-a-eq75.true) c.after_k.ensures

pub returns : goal.returns
unfolding two_bytes
returns c = no _ (ne_eqb _ _ c.if-a-eq75.false) refl
