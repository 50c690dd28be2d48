-- One answer, and one content of lent memory, for each contract of this crate. Assumes nothing.
use Rattle.std.specs.Prelude.{Option}
use Rattle.std.proofs.Common.{◌≡◌, ℕ, List}
use Rattle.laws.proofs.OneAnswer.{one_answer}
use Rattle.digits.specs.Clauses.{PutDecimal, PutGroups, ReadDecimal, ReadGroups}

pub one_put_decimal : (out : List ℕ) (at width n : ℕ) {after after' : List ℕ} →
    PutDecimal out at width n after → PutDecimal out at width n after' → after ≡ after'
one_put_decimal out at width n = one_answer

pub one_put_groups : (out : List ℕ) (at width n : ℕ) {after after' : List ℕ} →
    PutGroups out at width n after → PutGroups out at width n after' → after ≡ after'
one_put_groups out at width n = one_answer

pub one_read_decimal : (s : List ℕ) (top : ℕ) {r r' : Option ℕ} → ReadDecimal s top r → ReadDecimal s top r' → r ≡ r'
one_read_decimal s top = one_answer

pub one_read_groups : (s : List ℕ) (top : ℕ) {r r' : Option ℕ} → ReadGroups s top r → ReadGroups s top r' → r ≡ r'
one_read_groups s top = one_answer
