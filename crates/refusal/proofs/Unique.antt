-- One answer for each contract of this crate. Assumes nothing.
use Prim.Native.Nat.{ℕ}
use mathlib.Core.Path.{◌≡◌}
use Rattle.laws.proofs.OneAnswer.{one_answer}
use Rattle.refusal.specs.Clauses.{NumberOf, ValueOf}
use Rattle.refusal.specs.declared.Refusal.{Refusal}

pub one_number_of : (r : Refusal) {n n' : ℕ} → NumberOf r n → NumberOf r n' → n ≡ n'
one_number_of r = one_answer

pub one_value_of : (r : Refusal) {n n' : ℕ} → ValueOf r n → ValueOf r n' → n ≡ n'
one_value_of r = one_answer
