-- What each public function promises: its answer, and what lent memory holds after it.
use Rattle.std.specs.Prelude.{ℕ, Bool, List, ◌≡◌, Option}
use Rattle.laws.specs.Over.{over}
use Rattle.stop.specs.Stop.{stop_ok, stop_text, read_stop_text, stop_pair, read_stop, read_tenth}

abbrev pub StopOk : ℕ → Bool → Type 0
StopOk stop r = r ≡ stop_ok stop

abbrev pub PutStopText : List ℕ → ℕ → ℕ → List ℕ → Type 0
PutStopText out at stop after = after ≡ over out at (stop_text stop)

abbrev pub ReadStopText : List ℕ → Option ℕ → Type 0
ReadStopText s r = r ≡ read_stop_text s

abbrev pub PutStopPair : List ℕ → ℕ → ℕ → ℕ → List ℕ → Type 0
PutStopPair out at stop tenth after = after ≡ over out at (stop_pair stop tenth)

abbrev pub ReadStop : ℕ → ℕ → Option ℕ → Type 0
ReadStop a b r = r ≡ read_stop a b

abbrev pub ReadTenth : ℕ → Option ℕ → Type 0
ReadTenth b r = r ≡ read_tenth b
