-- What each public function promises: its answer, and what lent memory holds after it.
use Rattle.std.specs.Prelude.{◌≡◌, ℕ, List, Option}
use Rattle.laws.specs.Over.{over}
use Rattle.digits.specs.Digits.{decimal, groups, read_decimal, read_groups}

abbrev pub PutDecimal : List ℕ → ℕ → ℕ → ℕ → List ℕ → Type 0
PutDecimal out at width n after = after ≡ over out at (decimal width n)

abbrev pub PutGroups : List ℕ → ℕ → ℕ → ℕ → List ℕ → Type 0
PutGroups out at width n after = after ≡ over out at (groups width n)

abbrev pub ReadDecimal : List ℕ → ℕ → Option ℕ → Type 0
ReadDecimal s top r = r ≡ read_decimal top s

abbrev pub ReadGroups : List ℕ → ℕ → Option ℕ → Type 0
ReadGroups s top r = r ≡ read_groups top s
