-- One answer for each contract of this crate, and one content of the memory lent to `send`. Assumes nothing.
use Prim.Native.Nat.{ℕ}
use mathlib.Core.Bool.{Bool}
use mathlib.Core.List.{List}
use mathlib.Core.Path.{◌≡◌}
use Rattle.laws.proofs.OneAnswer.{one_answer, one_outcome}
use Rattle.recorder.specs.Clauses.{SetupFirst, RecorderStart, RecorderIsValid, RecorderSend, RecorderTake}
use Rattle.recorder.specs.declared.Setup.{Setup}
use Rattle.recorder.specs.declared.Recorder.{Recorder}
use Rattle.recorder.specs.declared.HandedOut.{HandedOut}
use Rattle.recorder.specs.declared.Recorded.{Recorded}

pub one_first : {r r' : Setup} → SetupFirst r → SetupFirst r' → r ≡ r'
one_first = one_answer

pub one_start : (setup : Setup) {r r' : Recorder} → RecorderStart setup r → RecorderStart setup r' → r ≡ r'
one_start setup = one_answer

pub one_is_valid : (self : Recorder) {r r' : Bool} → RecorderIsValid self r → RecorderIsValid self r' → r ≡ r'
one_is_valid self = one_answer

pub one_send : (self : Recorder) (out : List ℕ) {r r' : HandedOut} {after after' : List ℕ} →
    RecorderSend self out r after → RecorderSend self out r' after' → (r ≡ r') × (after ≡ after')
one_send self out = one_outcome

pub one_take : (self : Recorder) (piece : List ℕ) {r r' : Recorded} → RecorderTake self piece r → RecorderTake self piece r' → r ≡ r'
one_take self piece = one_answer
