-- What the public function promises: what the writer of crate digits, which subtracts, promises.
use Rattle.std.specs.Prelude.{ℕ, List}
use Rattle.digits.specs.Clauses as subtracting

abbrev pub PutDecimal : List ℕ → ℕ → ℕ → ℕ → List ℕ → Type 0
PutDecimal out at width n after = subtracting.PutDecimal out at width n after
