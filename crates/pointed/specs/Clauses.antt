-- What each public function promises: its answer, and what lent memory holds after it.
use Rattle.std.specs.Prelude.{ℕ, List, ◌≡◌, Option}
use Rattle.laws.specs.Over.{over}
use Rattle.pointed.specs.Pointed.{pointed_text, read_pointed}

abbrev pub PutPointed : List ℕ → ℕ → ℕ → ℕ → List ℕ → Type 0
PutPointed out at width n after = after ≡ over out at (pointed_text width n)

abbrev pub ReadPointed : List ℕ → ℕ → Option ℕ → Type 0
ReadPointed s top r = r ≡ read_pointed top s
