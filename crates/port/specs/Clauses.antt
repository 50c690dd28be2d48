-- What each public function promises: its answer.
use Rattle.std.specs.Prelude.{ℕ, Bool, ◌≡◌}
use Rattle.fixed.specs.declared.Settings.{Settings}
use Rattle.units.specs.declared.Measurement.{Measurement}
use Rattle.line.specs.declared.Line.{Line}
use Rattle.port.specs.Port.{valid_port, sent_up_to, choose_of, slot_of, receive_of, measure_of, unstarted, start_of}
use Rattle.port.specs.declared.Port.{Port}
use Rattle.port.specs.declared.Handed.{Handed}
use Rattle.port.specs.declared.Received.{Received}
use Rattle.port.specs.declared.Slotted.{Slotted}
use Rattle.port.specs.declared.Started.{Started}

abbrev pub SentUpTo : Port → ℕ → Port → Type 0
SentUpTo p at r = r ≡ sent_up_to p at

abbrev pub Choose : Port → Slotted → Type 0
Choose p r = r ≡ choose_of p

abbrev pub PortUnstarted : Port → Type 0
PortUnstarted r = r ≡ unstarted

abbrev pub PortIsValid : Port → Bool → Type 0
PortIsValid self r = r ≡ valid_port self

abbrev pub PortStart : Port → Line → Settings → Measurement → Started → Type 0
PortStart old line settings measurement r = r ≡ start_of old line settings measurement

abbrev pub PortReceive : Port → Line → ℕ → Received → Type 0
PortReceive self line byte r = r ≡ receive_of self line byte

abbrev pub PortSlot : Port → Slotted → Type 0
PortSlot self r = r ≡ slot_of self

abbrev pub PortMeasure : Port → Measurement → Handed → Type 0
PortMeasure self measurement r = r ≡ measure_of self measurement
