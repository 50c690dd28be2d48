-- What each public function promises: its answer, and what lent memory holds after it.
use Rattle.std.specs.Prelude.{ℕ, Bool, List, ◌≡◌}
use Rattle.laws.specs.Gives.{Gives}
use Rattle.refusal.specs.Answer.{Answer}
use Rattle.connectors.specs.declared.Side.{Side}
use Rattle.telling.specs.declared.Run.{Run}
use Rattle.runs.specs.Runs.{event_at, run_at, start_runs, valid_runs, are_over, told_at, told_at_leaves, count_both, count_both_leaves}
use Rattle.runs.specs.declared.Addressed.{Addressed}
use Rattle.runs.specs.declared.Runs.{Runs}
use Rattle.runs.specs.declared.BegunBoth.{BegunBoth}
use Rattle.runs.specs.declared.ToldAt.{ToldAt}

abbrev pub EventAt : Bool → List ℕ → Addressed → Type 0
EventAt ports line r = r ≡ event_at ports line

abbrev pub RunsStart : ℕ → BegunBoth → Type 0
RunsStart letter r = r ≡ start_runs letter

abbrev pub RunsRunAt : Runs → Side → Run → Type 0
RunsRunAt self side r = r ≡ run_at self side

abbrev pub RunsIsValid : Runs → Bool → Type 0
RunsIsValid self r = r ≡ valid_runs self

abbrev pub RunsIsOver : Runs → Bool → Type 0
RunsIsOver self r = r ≡ are_over self

abbrev pub RunsTell : Runs → Addressed → List ℕ → ToldAt → List ℕ → Type 0
RunsTell self addressed out r after = Gives (told_at self addressed out) (told_at_leaves self addressed out) r after

abbrev pub RunsCount : Runs → List ℕ → Answer ℕ → List ℕ → Type 0
RunsCount self out r after = Gives (count_both self out) (count_both_leaves self out) r after
