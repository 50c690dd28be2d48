-- What each public function promises: its answer, and what lent memory holds after it.
use Rattle.std.specs.Prelude.{ℕ, Bool, List, ◌≡◌}
use Rattle.laws.specs.Gives.{Gives}
use Rattle.refusal.specs.Answer.{Answer}
use Rattle.capture.specs.declared.Event.{Event}
use Rattle.telling.specs.Telling.{start_with, valid_run, is_over, told_of, told_leaves, count_of, count_leaves}
use Rattle.telling.specs.declared.Run.{Run}
use Rattle.telling.specs.declared.Begun.{Begun}
use Rattle.telling.specs.declared.Told.{Told}

abbrev pub RunStart : ℕ → Begun → Type 0
RunStart letter r = r ≡ start_with letter

abbrev pub RunIsValid : Run → Bool → Type 0
RunIsValid self r = r ≡ valid_run self

abbrev pub RunIsOver : Run → Bool → Type 0
RunIsOver self r = r ≡ is_over self

abbrev pub RunTell : Run → Event → List ℕ → Told → List ℕ → Type 0
RunTell self event out r after = Gives (told_of self event out) (told_leaves self event out) r after

abbrev pub RunCount : Run → List ℕ → Answer ℕ → List ℕ → Type 0
RunCount self out r after = Gives (count_of self out) (count_leaves self out) r after
