-- One content of lent memory for the contract of this crate, which is that of the writer that subtracts. Assumes nothing.
use Prim.Native.Nat.{ℕ}
use mathlib.Core.List.{List}
use mathlib.Core.Path.{◌≡◌}
use Rattle.laws.proofs.OneAnswer.{one_answer}
use Rattle.divided.specs.Clauses.{PutDecimal}

pub one_put_decimal : (out : List ℕ) (at width n : ℕ) {after after' : List ℕ} →
    PutDecimal out at width n after → PutDecimal out at width n after' → after ≡ after'
one_put_decimal out at width n = one_answer
