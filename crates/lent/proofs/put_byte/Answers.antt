-- `lent::put_byte` meets its contract: a store is a write of one byte. Assumes nothing.
use mathlib.Core.List.{[], ◌∷◌}
use mathlib.Core.Path.{sym}
use native.Mathlib.Omega.{arith}
use Rattle.laws.proofs.OverLaws.{over_short, sets_over}
use Rattle.lent.proofs.put_byte.Goals as goal

pub returns-then-at-out : goal.returns-then-at-out
returns-then-at-out c = sets_over _ (_ ∷ []) _ (omega arith)

pub returns-else-at-out : goal.returns-else-at-out
returns-else-at-out c = sym (over_short _ _ _ (omega arith))
