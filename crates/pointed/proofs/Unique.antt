-- What each public function promises leaves one answer, and one content of lent memory. Assumes nothing.
use Prim.Native.Nat.{ℕ}
use mathlib.Core.List.{List}
use mathlib.Core.Path.{◌≡◌}
use Rattle.std.specs.Prelude.{Option}
use Rattle.laws.proofs.OneAnswer.{one_answer}
use Rattle.pointed.specs.Clauses.{PutPointed, ReadPointed}

pub one_put_pointed : (out : List ℕ) (at width n : ℕ) {after after' : List ℕ} →
    PutPointed out at width n after → PutPointed out at width n after' → after ≡ after'
one_put_pointed out at width n = one_answer

pub one_read_pointed : (s : List ℕ) (top : ℕ) {r r' : Option ℕ} → ReadPointed s top r → ReadPointed s top r' → r ≡ r'
one_read_pointed s top = one_answer
