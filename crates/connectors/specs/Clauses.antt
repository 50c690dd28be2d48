-- What each public function promises: its answer, and what lent memory holds after it.
use Rattle.std.specs.Prelude.{ℕ, List, ◌≡◌, length}
use Rattle.laws.specs.Gives.{Gives}
use Rattle.fixed.specs.declared.Settings.{Settings}
use Rattle.units.specs.declared.Measurement.{Measurement}
use Rattle.line.specs.declared.Line.{Line}
use Rattle.port.specs.declared.Port.{Port}
use Rattle.connectors.specs.Connectors.{port_at, with_port, unstarted_both, start_both, receive_at, slot_at, measure_at, fill_at, fill_leaves_at}
use Rattle.connectors.specs.declared.Side.{Side}
use Rattle.connectors.specs.declared.Connectors.{Connectors}
use Rattle.connectors.specs.declared.Lines.{Lines}
use Rattle.connectors.specs.declared.StartedBoth.{StartedBoth}
use Rattle.connectors.specs.declared.ReceivedAt.{ReceivedAt}
use Rattle.connectors.specs.declared.SlottedAt.{SlottedAt}
use Rattle.connectors.specs.declared.HandedAt.{HandedAt}
use Rattle.connectors.specs.declared.FilledAt.{FilledAt}

abbrev pub ConnectorsPortAt : Connectors → Side → Port → Type 0
ConnectorsPortAt self side r = r ≡ port_at self side

abbrev pub ConnectorsWithPort : Connectors → Side → Port → Connectors → Type 0
ConnectorsWithPort self side port r = r ≡ with_port self side port

abbrev pub ConnectorsUnstarted : Connectors → Type 0
ConnectorsUnstarted r = r ≡ unstarted_both

abbrev pub ConnectorsStart : Connectors → Lines → Settings → Measurement → Measurement → StartedBoth → Type 0
ConnectorsStart old lines settings camera external r = r ≡ start_both old lines settings camera external

abbrev pub ConnectorsReceive : Connectors → ℕ → Line → ℕ → ReceivedAt → Type 0
ConnectorsReceive self number line byte r = r ≡ receive_at self number line byte

abbrev pub ConnectorsSlot : Connectors → ℕ → SlottedAt → Type 0
ConnectorsSlot self number r = r ≡ slot_at self number

abbrev pub ConnectorsMeasure : Connectors → ℕ → Measurement → HandedAt → Type 0
ConnectorsMeasure self number measurement r = r ≡ measure_at self number measurement

abbrev pub ConnectorsFill : Connectors → ℕ → List ℕ → FilledAt → List ℕ → Type 0
ConnectorsFill self number out r after = Gives (fill_at self number (length out)) (fill_leaves_at self number out) r after
