-- What each public function promises: its answer.
use Rattle.std.specs.Prelude.{ℕ, List, ◌≡◌}
use Rattle.capture.specs.Words.{before}
use Rattle.capture.specs.Capture.{event_of}
use Rattle.capture.specs.declared.Event.{Event}

abbrev pub BytesBefore : List ℕ → ℕ → ℕ → Type 0
BytesBefore s byte r = r ≡ before byte s

abbrev pub EventOf : List ℕ → Event → Type 0
EventOf line r = r ≡ event_of line
