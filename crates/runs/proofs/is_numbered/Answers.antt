-- `runs::is_numbered` meets its contract: by the line's length. Assumes nothing.
use mathlib.Core.Path.{refl, ◌∙◌}
use native.Mathlib.Omega.{arith}
use borrow.Author.Tests.{eq-eqb, ne_eqb}
use Rattle.laws.proofs.Tests.{and_fails, and_goes}
use Rattle.runs.proofs.Laws.{numbered_short, numbered_long}
use Rattle.runs.proofs.is_numbered.Goals as goal

pub returns-then-line-lt2 : goal.returns-then-line-lt2
returns-then-line-lt2 c = numbered_short _ _ c.if-line-lt2.true

pub returns-then-line-number : goal.returns-then-line-number
returns-then-line-number c = and_goes (eq-eqb _ _ c.if-line-number.true) refl ∙ numbered_long _ _ (omega arith)

pub returns-else-line-number : goal.returns-else-line-number
returns-else-line-number c = let n = ne_eqb _ _ c.if-line-number.false in n ∙ and_fails _ n ∙ numbered_long _ _ (omega arith)
