-- What each public function promises: its answer, and what lent memory holds after it.
use Rattle.std.specs.Prelude.{ℕ, Bool, List, ◌≡◌}
use Rattle.laws.specs.Gives.{Gives}
use Rattle.cutter.specs.Cutter.{whole_left}
use Rattle.recorder.specs.Recorder.{first_setup, start_of, valid_recorder, hands_out, send_of, take_of}
use Rattle.recorder.specs.declared.Setup.{Setup}
use Rattle.recorder.specs.declared.Recorder.{Recorder}
use Rattle.recorder.specs.declared.HandedOut.{HandedOut}
use Rattle.recorder.specs.declared.Recorded.{Recorded}

abbrev pub SetupFirst : Setup → Type 0
SetupFirst r = r ≡ first_setup

abbrev pub RecorderStart : Setup → Recorder → Type 0
RecorderStart setup r = r ≡ start_of setup

abbrev pub RecorderIsValid : Recorder → Bool → Type 0
RecorderIsValid self r = r ≡ valid_recorder self

abbrev pub RecorderSend : Recorder → List ℕ → HandedOut → List ℕ → Type 0
RecorderSend self out r after = Gives (send_of self out) (whole_left (hands_out self) out) r after

abbrev pub RecorderTake : Recorder → List ℕ → Recorded → Type 0
RecorderTake self piece r = r ≡ take_of self piece
