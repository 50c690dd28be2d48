-- What each public function promises leaves one content of lent memory. Assumes nothing.
use Prim.Native.Nat.{ℕ}
use mathlib.Core.List.{List}
use mathlib.Core.Path.{◌≡◌}
use Rattle.laws.proofs.OneAnswer.{one_answer}
use Rattle.record.specs.declared.Record.{Record}
use Rattle.fixed.specs.declared.Fixed.{Fixed}
use Rattle.layout.specs.Clauses.{PutRecord, PutFixed}

pub one_put_record : (out : List ℕ) (r : Record) {after after' : List ℕ} → PutRecord out r after → PutRecord out r after' → after ≡ after'
one_put_record out r = one_answer

pub one_put_fixed : (out : List ℕ) (f : Fixed) {after after' : List ℕ} → PutFixed out f after → PutFixed out f after' → after ≡ after'
one_put_fixed out f = one_answer
