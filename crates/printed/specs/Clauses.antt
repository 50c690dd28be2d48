-- What each public function promises: its answer, and what lent memory holds after it.
use Rattle.std.specs.Prelude.{ℕ, List, ◌≡◌, Option}
use Rattle.laws.specs.Over.{over}
use Rattle.refusal.specs.Answer.{Answer, Verdict}
use Rattle.printed.specs.Printed.{slot_text, separator, slots_line, verdict_text, Prints}

abbrev pub PutSlot : Answer (Option ℕ) → List ℕ → ℕ → List ℕ → Type 0
PutSlot sent out at after = after ≡ over out at (slot_text sent)

abbrev pub Separator : ℕ → ℕ → Type 0
Separator left r = r ≡ separator left

abbrev pub PutVerdict : Verdict → List ℕ → Answer ℕ → List ℕ → Type 0
PutVerdict verdict out r after = Prints (verdict_text verdict) out r after

abbrev pub PutCount : ℕ → List ℕ → Answer ℕ → List ℕ → Type 0
PutCount n out r after = Prints (slots_line n) out r after
