-- Two connectors over one lens: request [8]. "Each port has its own line, waiting place, modes, unit, film, measurement, rate and slots"; "Shared are
-- fixed data and the start-up letter". A port of the box is the base's port over the shared settings. The contracts cite these.
use Rattle.std.specs.Prelude.{ℕ, cond, List, eqb, Err, None, Ok, Option, Some}
use Rattle.refusal.specs.Answer.{Verdict}
use Rattle.refusal.specs.declared.Refusal.TheVariants.{NoPort}
use Rattle.fixed.specs.declared.Settings.{Settings}
use Rattle.units.specs.declared.Measurement.{Measurement}
use Rattle.line.specs.declared.Line.{Line}
use Rattle.line.specs.Line.{blank}
use Rattle.port.specs.declared.Port.{Port}
use Rattle.port.specs.Port.{slot_of, receive_of, measure_of, unstarted, start_verdict, started_port}
use Rattle.fill.specs.Fill.{fill_of, fill_leaves}
use Rattle.connectors.specs.declared.Side.{Side}
use Rattle.connectors.specs.declared.Side.TheVariants.{Camera, External}
use Rattle.connectors.specs.declared.Connector.{Connector}
use Rattle.connectors.specs.declared.Connectors.{Connectors}
use Rattle.connectors.specs.declared.Lines.{Lines}
use Rattle.connectors.specs.declared.StartedBoth.{StartedBoth}
use Rattle.connectors.specs.declared.ReceivedAt.{ReceivedAt}
use Rattle.connectors.specs.declared.SlottedAt.{SlottedAt}
use Rattle.connectors.specs.declared.HandedAt.{HandedAt}
use Rattle.connectors.specs.declared.FilledAt.{FilledAt}

-- "Ports: 0 the camera contacts, 1 the external connector"
unfoldable pub side_of : ℕ → Option Side
side_of n = cond (eqb n 0) (Some Camera) (cond (eqb n 1) (Some External) None)

-- ---- a port of the box

abbrev pub port_with : Settings → Connector → Port
port_with s c = record {
  source = record { settings = s; measurement = c.measurement; modes = c.modes };
  message = c.message;
  last = c.last;
  waiting = c.waiting;
}

abbrev pub own_of : Port → Connector
own_of p = record { measurement = p.source.measurement; modes = p.source.modes; message = p.message; last = p.last; waiting = p.waiting }

abbrev pub port_at : Connectors → Side → Port
port_at b Camera = port_with b.settings b.camera
port_at b External = port_with b.settings b.external

-- a port of the box has become this one: its settings are both ports'
abbrev pub with_port : Connectors → Side → Port → Connectors
with_port b Camera p = record { settings = p.source.settings; camera = own_of p; external = b.external }
with_port b External p = record { settings = p.source.settings; camera = b.camera; external = own_of p }

-- and its line, which its driver collects
abbrev pub line_at : Lines → Side → Line
line_at l Camera = l.camera
line_at l External = l.external

abbrev pub with_line : Lines → Side → Line → Lines
with_line l Camera x = record { camera = x; external = l.external }
with_line l External x = record { camera = l.camera; external = x }

-- ---- a restart

-- the first refusal of two verdicts
abbrev pub first_refused : Verdict → Verdict → Verdict
first_refused (Ok tt) v = v
first_refused (Err r) v = Err r

-- 8, "then the camera side's 1, then the external's 1"
unfoldable pub both_verdict : Settings → Measurement → Measurement → Verdict
both_verdict s camera external = first_refused (start_verdict s camera) (start_verdict s external)

-- "A restart restarts both from settings handed in"
abbrev pub started_both : Settings → Measurement → Measurement → Connectors
started_both s camera external = record { settings = s; camera = own_of (started_port s camera); external = own_of (started_port s external) }

abbrev pub blank_lines : Lines
blank_lines = record { camera = blank; external = blank }

-- what a verdict on a start hands back: the new box and two empty lines, or the old ones
abbrev pub started_by : Verdict → Connectors → Connectors → Lines → StartedBoth
started_by (Ok tt) new old lines = record { verdict = Ok tt; connectors = new; lines = blank_lines }
started_by (Err r) new old lines = record { verdict = Err r; connectors = old; lines = lines }

unfoldable pub start_both : Connectors → Lines → Settings → Measurement → Measurement → StartedBoth
start_both old lines s camera external = started_by (both_verdict s camera external) (started_both s camera external) old lines

-- before the first start, which is a restart too
abbrev pub unstarted_both : Connectors
unstarted_both = record { settings = unstarted.source.settings; camera = own_of unstarted; external = own_of unstarted }

-- ---- an entry with a port number: 12 before all, else what the port answers

unfoldable pub receive_in : Connectors → Option Side → Line → ℕ → ReceivedAt
receive_in b (Some a) l x =
    let r = receive_of (port_at b a) l x in
    record { verdict = r.verdict; connectors = with_port b a r.port; line = r.line }
receive_in b None l x = record { verdict = Err NoPort; connectors = b; line = l }

abbrev pub receive_at : Connectors → ℕ → Line → ℕ → ReceivedAt
receive_at b n l x = receive_in b (side_of n) l x

unfoldable pub slot_in : Connectors → Option Side → SlottedAt
slot_in b (Some a) =
    let r = slot_of (port_at b a) in
    record { sent = r.sent; connectors = with_port b a r.port }
slot_in b None = record { sent = Err NoPort; connectors = b }

abbrev pub slot_at : Connectors → ℕ → SlottedAt
slot_at b n = slot_in b (side_of n)

unfoldable pub measure_in : Connectors → Option Side → Measurement → HandedAt
measure_in b (Some a) m =
    let r = measure_of (port_at b a) m in
    record { verdict = r.verdict; connectors = with_port b a r.port }
measure_in b None m = record { verdict = Err NoPort; connectors = b }

abbrev pub measure_at : Connectors → ℕ → Measurement → HandedAt
measure_at b n m = measure_in b (side_of n) m

unfoldable pub fill_in : Connectors → Option Side → ℕ → FilledAt
fill_in b (Some a) room =
    let r = fill_of (port_at b a) room in
    record { verdict = r.verdict; count = r.count; connectors = with_port b a r.port }
fill_in b None room = record { verdict = Err NoPort; count = 0; connectors = b }

abbrev pub fill_at : Connectors → ℕ → ℕ → FilledAt
fill_at b n room = fill_in b (side_of n) room

unfoldable pub fill_leaves_in : Connectors → Option Side → List ℕ → List ℕ
fill_leaves_in b (Some a) out = fill_leaves (port_at b a) out
fill_leaves_in b None out = out

abbrev pub fill_leaves_at : Connectors → ℕ → List ℕ → List ℕ
fill_leaves_at b n out = fill_leaves_in b (side_of n) out
