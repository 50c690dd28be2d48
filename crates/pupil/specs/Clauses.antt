-- What each public function promises: its answer, and what lent memory holds after it.
use Rattle.std.specs.Prelude.{ℕ, List, ◌≡◌, ℤ, Option}
use Rattle.laws.specs.Over.{over}
use Rattle.pupil.specs.Pupil.{pupil_text, pupil_packed, read_pupil_text, read_pupil_packed}

abbrev pub PutPupilText : List ℕ → ℕ → ℤ → List ℕ → Type 0
PutPupilText out at e after = after ≡ over out at (pupil_text.print e)

abbrev pub PutPupilPacked : List ℕ → ℕ → ℤ → List ℕ → Type 0
PutPupilPacked out at e after = after ≡ over out at (pupil_packed.print e)

abbrev pub ReadPupilText : List ℕ → Option ℤ → Type 0
ReadPupilText s r = r ≡ read_pupil_text s

abbrev pub ReadPupilPacked : List ℕ → Option ℤ → Type 0
ReadPupilPacked s r = r ≡ read_pupil_packed s
