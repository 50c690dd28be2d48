-- One answer for each contract of this crate. Assumes nothing.
use Prim.Native.Nat.{ℕ}
use mathlib.Core.List.{List}
use mathlib.Core.Path.{◌≡◌}
use Rattle.laws.proofs.OneAnswer.{one_answer}
use Rattle.capture.specs.Clauses.{BytesBefore, EventOf}
use Rattle.capture.specs.declared.Event.{Event}

pub one_bytes_before : (s : List ℕ) (byte : ℕ) {r r' : ℕ} → BytesBefore s byte r → BytesBefore s byte r' → r ≡ r'
one_bytes_before s byte = one_answer

pub one_event_of : (line : List ℕ) {r r' : Event} → EventOf line r → EventOf line r' → r ≡ r'
one_event_of line = one_answer
