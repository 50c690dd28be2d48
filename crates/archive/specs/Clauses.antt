-- What each public function promises: its answer, and what lent memory holds after it.
use Rattle.std.specs.Prelude.{ℕ, List}
use Rattle.refusal.specs.Answer.{Answer}
use Rattle.frame.specs.Message.{Moves}
use Rattle.archive.specs.Archive.{old_line_length, new_line_length, forward, back}

abbrev pub OldToNew : List ℕ → List ℕ → List ℕ → Answer ℕ → List ℕ → Type 0
OldToNew m serial out w after = Moves new_line_length (forward m serial) out w after

abbrev pub NewToOld : List ℕ → List ℕ → Answer ℕ → List ℕ → Type 0
NewToOld m out w after = Moves old_line_length (back m) out w after
