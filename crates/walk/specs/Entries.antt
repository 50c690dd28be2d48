-- The calls of which demand 3 is proved are the port's entries: what each entry's contract leaves is what its call comes to, and the bytes that it hands
-- out are the call's. Statements only.
use Rattle.std.specs.Prelude.{ℕ, List, ◌≡◌, length, take}
use Rattle.fixed.specs.declared.Settings.{Settings}
use Rattle.units.specs.declared.Measurement.{Measurement}
use Rattle.line.specs.declared.Line.{Line}
use Rattle.port.specs.declared.Handed.{Handed}
use Rattle.port.specs.declared.Port.{Port}
use Rattle.port.specs.declared.Received.{Received}
use Rattle.port.specs.declared.Slotted.{Slotted}
use Rattle.port.specs.declared.Started.{Started}
use Rattle.port.specs.Clauses.{PortStart, PortReceive, PortSlot, PortMeasure}
use Rattle.fill.specs.declared.Filled.{Filled}
use Rattle.fill.specs.Clauses.{Fill}
use Rattle.walk.specs.View.{bytes_of}
use Rattle.walk.specs.Calls.{receive, slots_once, measure, fill, Held, after, bytes, begun, FromStart}

-- what the driver holds: this port and this line
abbrev pub held_with : Port → Line → Held
held_with p l = record { port = p; line = l }

pub record Entries : Type 0 where
  pub start : (old : Port) (l : Line) (s : Settings) (m : Measurement) (r : Started) → PortStart old l s m r → held_with r.port r.line ≡ begun old l s m
  pub receive : (h : Held) (b : ℕ) (r : Received) → PortReceive h.port h.line b r → held_with r.port r.line ≡ after h (receive b)
  pub slot : (h : Held) (r : Slotted) → PortSlot h.port r → (held_with r.port h.line ≡ after h slots_once) × (bytes_of r.sent ≡ bytes h slots_once)
  pub measure : (h : Held) (m : Measurement) (r : Handed) → PortMeasure h.port m r → held_with r.port h.line ≡ after h (measure m)
  -- a fill's bytes stand at the start of the buffer, as many as it counts
  pub fill : (h : Held) (out : List ℕ) (r : Filled) (left : List ℕ) → FromStart h → Fill h.port out r left →
      (held_with r.port h.line ≡ after h (fill (length out))) × (take r.count left ≡ bytes h (fill (length out)))
