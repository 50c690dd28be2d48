-- One answer, and one content of lent memory, for each public contract of this crate. Assumes nothing.
use Prim.Native.Nat.{ℕ}
use mathlib.Core.List.{List}
use mathlib.Core.Path.{◌≡◌}
use Rattle.laws.proofs.OneAnswer.{one_outcome}
use Rattle.refusal.specs.Answer.{Answer}
use Rattle.archive.specs.Clauses.{OldToNew, NewToOld}

pub one_old_to_new : (m text out : List ℕ) {w w' : Answer ℕ} {after after' : List ℕ} →
    OldToNew m text out w after → OldToNew m text out w' after' → (w ≡ w') × (after ≡ after')
one_old_to_new m text out = one_outcome

pub one_new_to_old : (m out : List ℕ) {w w' : Answer ℕ} {after after' : List ℕ} → NewToOld m out w after → NewToOld m out w' after' → (w ≡ w') × (after ≡ after')
one_new_to_old m out = one_outcome
