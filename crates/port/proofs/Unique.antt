-- One answer for each contract of this crate. Assumes nothing.
use Prim.Native.Nat.{ℕ}
use mathlib.Core.Bool.{Bool}
use mathlib.Core.Path.{◌≡◌}
use Rattle.laws.proofs.OneAnswer.{one_answer}
use Rattle.fixed.specs.declared.Settings.{Settings}
use Rattle.units.specs.declared.Measurement.{Measurement}
use Rattle.line.specs.declared.Line.{Line}
use Rattle.port.specs.Clauses.{SentUpTo, Choose, PortUnstarted, PortIsValid, PortStart, PortReceive, PortSlot, PortMeasure}
use Rattle.port.specs.declared.Port.{Port}
use Rattle.port.specs.declared.Slotted.{Slotted}
use Rattle.port.specs.declared.Received.{Received}
use Rattle.port.specs.declared.Handed.{Handed}
use Rattle.port.specs.declared.Started.{Started}

pub one_unstarted : {r r' : Port} → PortUnstarted r → PortUnstarted r' → r ≡ r'
one_unstarted = one_answer

pub one_is_valid : (self : Port) {r r' : Bool} → PortIsValid self r → PortIsValid self r' → r ≡ r'
one_is_valid self = one_answer

pub one_start : (old : Port) (line : Line) (settings : Settings) (measurement : Measurement) {r r' : Started} →
    PortStart old line settings measurement r → PortStart old line settings measurement r' → r ≡ r'
one_start old line settings measurement = one_answer

pub one_receive : (self : Port) (line : Line) (byte : ℕ) {r r' : Received} → PortReceive self line byte r → PortReceive self line byte r' → r ≡ r'
one_receive self line byte = one_answer

pub one_slot : (self : Port) {r r' : Slotted} → PortSlot self r → PortSlot self r' → r ≡ r'
one_slot self = one_answer

pub one_sent_up_to : (p : Port) (at : ℕ) {r r' : Port} → SentUpTo p at r → SentUpTo p at r' → r ≡ r'
one_sent_up_to p at = one_answer

pub one_choose : (p : Port) {r r' : Slotted} → Choose p r → Choose p r' → r ≡ r'
one_choose p = one_answer

pub one_measure : (self : Port) (measurement : Measurement) {r r' : Handed} →
    PortMeasure self measurement r → PortMeasure self measurement r' → r ≡ r'
one_measure self measurement = one_answer
