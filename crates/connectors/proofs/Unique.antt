-- One answer for each contract of this crate, and one content of the lent buffer. Assumes nothing.
use Prim.Native.Nat.{ℕ}
use mathlib.Core.List.{List}
use mathlib.Core.Path.{◌≡◌}
use Rattle.laws.proofs.OneAnswer.{one_answer, one_outcome}
use Rattle.fixed.specs.declared.Settings.{Settings}
use Rattle.units.specs.declared.Measurement.{Measurement}
use Rattle.line.specs.declared.Line.{Line}
use Rattle.port.specs.declared.Port.{Port}
use Rattle.connectors.specs.Clauses.{ConnectorsPortAt, ConnectorsWithPort, ConnectorsUnstarted, ConnectorsStart, ConnectorsReceive, ConnectorsSlot, ConnectorsMeasure, ConnectorsFill}
use Rattle.connectors.specs.declared.Side.{Side}
use Rattle.connectors.specs.declared.Connectors.{Connectors}
use Rattle.connectors.specs.declared.Lines.{Lines}
use Rattle.connectors.specs.declared.StartedBoth.{StartedBoth}
use Rattle.connectors.specs.declared.ReceivedAt.{ReceivedAt}
use Rattle.connectors.specs.declared.SlottedAt.{SlottedAt}
use Rattle.connectors.specs.declared.HandedAt.{HandedAt}
use Rattle.connectors.specs.declared.FilledAt.{FilledAt}

pub one_port_at : (self : Connectors) (side : Side) {r r' : Port} → ConnectorsPortAt self side r → ConnectorsPortAt self side r' → r ≡ r'
one_port_at self side = one_answer

pub one_with_port : (self : Connectors) (side : Side) (port : Port) {r r' : Connectors} →
    ConnectorsWithPort self side port r → ConnectorsWithPort self side port r' → r ≡ r'
one_with_port self side port = one_answer

pub one_unstarted : {r r' : Connectors} → ConnectorsUnstarted r → ConnectorsUnstarted r' → r ≡ r'
one_unstarted = one_answer

pub one_start : (old : Connectors) (lines : Lines) (settings : Settings) (camera external : Measurement) {r r' : StartedBoth} →
    ConnectorsStart old lines settings camera external r → ConnectorsStart old lines settings camera external r' → r ≡ r'
one_start old lines settings camera external = one_answer

pub one_receive : (self : Connectors) (number : ℕ) (line : Line) (byte : ℕ) {r r' : ReceivedAt} →
    ConnectorsReceive self number line byte r → ConnectorsReceive self number line byte r' → r ≡ r'
one_receive self number line byte = one_answer

pub one_slot : (self : Connectors) (number : ℕ) {r r' : SlottedAt} → ConnectorsSlot self number r → ConnectorsSlot self number r' → r ≡ r'
one_slot self number = one_answer

pub one_measure : (self : Connectors) (number : ℕ) (measurement : Measurement) {r r' : HandedAt} →
    ConnectorsMeasure self number measurement r → ConnectorsMeasure self number measurement r' → r ≡ r'
one_measure self number measurement = one_answer

pub one_fill : (self : Connectors) (number : ℕ) (out : List ℕ) {r r' : FilledAt} {after after' : List ℕ} →
    ConnectorsFill self number out r after → ConnectorsFill self number out r' after' → (r ≡ r') × (after ≡ after')
one_fill self number out = one_outcome
