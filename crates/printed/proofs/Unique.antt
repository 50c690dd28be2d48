-- One answer, and one content of lent memory, for each contract of this crate. Assumes nothing.
use Prim.Native.Nat.{ℕ}
use mathlib.Core.List.{List}
use mathlib.Core.Path.{◌≡◌}
use Rattle.std.specs.Prelude.{Option}
use Rattle.laws.proofs.OneAnswer.{one_answer, one_outcome}
use Rattle.refusal.specs.Answer.{Answer, Verdict}
use Rattle.printed.specs.Clauses.{PutSlot, Separator, PutVerdict, PutCount}

pub one_put_slot : (sent : Answer (Option ℕ)) (out : List ℕ) (at : ℕ) {after after' : List ℕ} → PutSlot sent out at after → PutSlot sent out at after' → after ≡ after'
one_put_slot sent out at = one_answer

pub one_separator : (left : ℕ) {r r' : ℕ} → Separator left r → Separator left r' → r ≡ r'
one_separator left = one_answer

pub one_put_verdict : (verdict : Verdict) (out : List ℕ) {r r' : Answer ℕ} {after after' : List ℕ} →
    PutVerdict verdict out r after → PutVerdict verdict out r' after' → (r ≡ r') × (after ≡ after')
one_put_verdict verdict out = one_outcome

pub one_put_count : (n : ℕ) (out : List ℕ) {r r' : Answer ℕ} {after after' : List ℕ} → PutCount n out r after → PutCount n out r' after' → (r ≡ r') × (after ≡ after')
one_put_count n out = one_outcome
