-- What the entries of the box promise beside their exact answers: statements only. A number that names no port is refused before all and changes
-- nothing; on a port each entry is the base's; a refusal changes nothing; valid ports stay valid.
use Rattle.std.specs.Prelude.{ℕ, true, false, ◌&&◌, List, ◌↔◌, ◌⊎◌, ◌≢◌, ◌≡◌, length, Err, None, Ok, Some}
use Rattle.refusal.specs.declared.Refusal.{Refusal}
use Rattle.refusal.specs.declared.Refusal.TheVariants as refusal
use Rattle.fixed.specs.Fixed.{settings_lowest}
use Rattle.fixed.specs.declared.Settings.{Settings}
use Rattle.units.specs.Measurement.{measurement_verdict}
use Rattle.units.specs.declared.Measurement.{Measurement}
use Rattle.line.specs.declared.Line.{Line}
use Rattle.line.specs.Line.{blank, valid_line}
use Rattle.port.specs.declared.Port.{Port}
use Rattle.port.specs.Port.{valid_port, slot_of, receive_of, measure_of, started_port}
use Rattle.fill.specs.Fill.{fill_of, fill_leaves}
use Rattle.connectors.specs.declared.Side.{Side}
use Rattle.connectors.specs.declared.Side.TheVariants.{Camera, External}
use Rattle.connectors.specs.declared.Connector.{Connector}
use Rattle.connectors.specs.declared.Connectors.{Connectors}
use Rattle.connectors.specs.declared.Lines.{Lines}
use Rattle.connectors.specs.Connectors.{side_of, port_at, unstarted_both, start_both, receive_at, slot_at, measure_at, fill_at, fill_leaves_at}

-- ---- which port a number names

abbrev pub Unknown : ℕ → Type 0
Unknown n = (n ≢ 0) × (n ≢ 1)

-- "Ports: 0 the camera contacts, 1 the external connector", and no other number names one
pub record Named : Type 0 where
  pub camera : (n : ℕ) → (side_of n ≡ Some Camera) ↔ (n ≡ 0)
  pub external : (n : ℕ) → (side_of n ≡ Some External) ↔ (n ≡ 1)
  pub nowhere : (n : ℕ) → (side_of n ≡ None) ↔ Unknown n

-- "Refusals: 12, no such port, before all others": it is given for those numbers and no others, whatever the state is, an invalid one too
pub record NoSuchPort : Type 0 where
  pub receive : (b : Connectors) (n : ℕ) (l : Line) (x : ℕ) → ((receive_at b n l x).verdict ≡ Err refusal.NoPort) ↔ Unknown n
  pub slot : (b : Connectors) (n : ℕ) → ((slot_at b n).sent ≡ Err refusal.NoPort) ↔ Unknown n
  pub measure : (b : Connectors) (n : ℕ) (m : Measurement) → ((measure_at b n m).verdict ≡ Err refusal.NoPort) ↔ Unknown n
  pub fill : (b : Connectors) (n room : ℕ) → ((fill_at b n room).verdict ≡ Err refusal.NoPort) ↔ Unknown n

-- "An unknown port number changes nothing": not the box, nor the line, nor lent memory
pub record UnknownSame : Type 0 where
  pub receive : (b : Connectors) (n : ℕ) (l : Line) (x : ℕ) → Unknown n → ((receive_at b n l x).connectors ≡ b) × ((receive_at b n l x).line ≡ l)
  pub slot : (b : Connectors) (n : ℕ) → Unknown n → (slot_at b n).connectors ≡ b
  pub measure : (b : Connectors) (n : ℕ) (m : Measurement) → Unknown n → (measure_at b n m).connectors ≡ b
  pub fill : (b : Connectors) (n : ℕ) (out : List ℕ) → Unknown n →
      ((fill_at b n (length out)).connectors ≡ b) × ((fill_at b n (length out)).count ≡ 0) × (fill_leaves_at b n out ≡ out)

-- ---- on a port

-- what a side has of its own
abbrev pub own_at : Connectors → Side → Connector
own_at b Camera = b.camera
own_at b External = b.external

abbrev pub opposite : Side → Side
opposite Camera = External
opposite External = Camera

-- a port of the box has become this one; what the other has of its own is as it was
pub record Became (b : Connectors) (a : Side) (p : Port) (after : Connectors) : Type 0 where
  pub port : port_at after a ≡ p
  pub settings : after.settings ≡ p.source.settings
  pub other : own_at after (opposite a) ≡ own_at b (opposite a)

-- "Each port has its own line, waiting place, modes, unit, film, measurement, rate and slots", "Shared are fixed data and the start-up letter": a port
-- that a number names answers what the base's port does over the shared settings, and becomes the port that it hands back
pub record AsThePort : Type 0 where
  pub receive : (b : Connectors) (n : ℕ) (a : Side) (l : Line) (x : ℕ) → side_of n ≡ Some a →
      ((receive_at b n l x).verdict ≡ (receive_of (port_at b a) l x).verdict) ×
      ((receive_at b n l x).line ≡ (receive_of (port_at b a) l x).line) ×
      Became b a (receive_of (port_at b a) l x).port (receive_at b n l x).connectors
  pub slot : (b : Connectors) (n : ℕ) (a : Side) → side_of n ≡ Some a →
      ((slot_at b n).sent ≡ (slot_of (port_at b a)).sent) × Became b a (slot_of (port_at b a)).port (slot_at b n).connectors
  pub measure : (b : Connectors) (n : ℕ) (a : Side) (m : Measurement) → side_of n ≡ Some a →
      ((measure_at b n m).verdict ≡ (measure_of (port_at b a) m).verdict) × Became b a (measure_of (port_at b a) m).port (measure_at b n m).connectors
  pub fill : (b : Connectors) (n : ℕ) (a : Side) (room : ℕ) → side_of n ≡ Some a →
      ((fill_at b n room).verdict ≡ (fill_of (port_at b a) room).verdict) ×
      ((fill_at b n room).count ≡ (fill_of (port_at b a) room).count) ×
      Became b a (fill_of (port_at b a) room).port (fill_at b n room).connectors
  pub fill_bytes : (b : Connectors) (n : ℕ) (a : Side) (out : List ℕ) → side_of n ≡ Some a → fill_leaves_at b n out ≡ fill_leaves (port_at b a) out

-- "16 judges the shared settings and the named port": the other port's own parts have no say, nor has the other's line
pub record SixteenAt : Type 0 where
  pub receive : (b : Connectors) (n : ℕ) (a : Side) (l : Line) (x : ℕ) → side_of n ≡ Some a →
      ((receive_at b n l x).verdict ≡ Err refusal.State) ↔ (valid_port (port_at b a) && valid_line l ≡ false)
  pub slot : (b : Connectors) (n : ℕ) (a : Side) → side_of n ≡ Some a → ((slot_at b n).sent ≡ Err refusal.State) ↔ (valid_port (port_at b a) ≡ false)
  pub measure : (b : Connectors) (n : ℕ) (a : Side) (m : Measurement) → side_of n ≡ Some a →
      ((measure_at b n m).verdict ≡ Err refusal.State) ↔ (valid_port (port_at b a) ≡ false)
  pub fill : (b : Connectors) (n : ℕ) (a : Side) (room : ℕ) → side_of n ≡ Some a →
      ((fill_at b n room).verdict ≡ Err refusal.State) ↔ (valid_port (port_at b a) ≡ false)

-- "Bad settings, measurements .. change no state"; "a command refused with 7 leaves its line empty and all else as it was"
pub record RefusedSame : Type 0 where
  pub receive : (b : Connectors) (n : ℕ) (l : Line) (x : ℕ) (r : Refusal) → (receive_at b n l x).verdict ≡ Err r → (receive_at b n l x).connectors ≡ b
  pub receive_12 : (b : Connectors) (n : ℕ) (l : Line) (x : ℕ) → (receive_at b n l x).verdict ≡ Err refusal.NoPort → (receive_at b n l x).line ≡ l
  pub receive_16 : (b : Connectors) (n : ℕ) (l : Line) (x : ℕ) → (receive_at b n l x).verdict ≡ Err refusal.State → (receive_at b n l x).line ≡ l
  pub receive_7 : (b : Connectors) (n : ℕ) (l : Line) (x : ℕ) → (receive_at b n l x).verdict ≡ Err refusal.Dropped → (receive_at b n l x).line ≡ blank
  pub slot : (b : Connectors) (n : ℕ) (r : Refusal) → (slot_at b n).sent ≡ Err r → (slot_at b n).connectors ≡ b
  pub measure : (b : Connectors) (n : ℕ) (m : Measurement) (r : Refusal) → (measure_at b n m).verdict ≡ Err r → (measure_at b n m).connectors ≡ b
  pub fill : (b : Connectors) (n room : ℕ) (r : Refusal) → (fill_at b n room).verdict ≡ Err r → (fill_at b n room).connectors ≡ b
  pub fill_bytes : (b : Connectors) (n : ℕ) (out : List ℕ) (r : Refusal) → (fill_at b n (length out)).verdict ≡ Err r → fill_leaves_at b n out ≡ out

-- ---- a restart

-- its cases: 8 with the lowest item; "a restart checks the camera side's measurement first"; else the external's
abbrev pub RestartCase : Settings → Measurement → Measurement → Refusal → Type 0
RestartCase s camera external r =
    ((settings_lowest s ≢ 0) × (r ≡ refusal.Setting (settings_lowest s)))
    ⊎ ((settings_lowest s ≡ 0) × (measurement_verdict camera ≡ Err r))
    ⊎ ((settings_lowest s ≡ 0) × (measurement_verdict camera ≡ Ok tt) × (measurement_verdict external ≡ Err r))

-- "A restart restarts both from settings handed in", the first start too
pub record Restart : Type 0 where
  pub accepted : (old : Connectors) (lines : Lines) (s : Settings) (camera external : Measurement) →
      ((start_both old lines s camera external).verdict ≡ Ok tt)
      ↔ ((settings_lowest s ≡ 0) × (measurement_verdict camera ≡ Ok tt) × (measurement_verdict external ≡ Ok tt))
  pub refused : (old : Connectors) (lines : Lines) (s : Settings) (camera external : Measurement) (r : Refusal) →
      ((start_both old lines s camera external).verdict ≡ Err r) ↔ RestartCase s camera external r
  -- "a refused one changes neither"
  pub refused_same : (old : Connectors) (lines : Lines) (s : Settings) (camera external : Measurement) (r : Refusal) →
      (start_both old lines s camera external).verdict ≡ Err r →
      ((start_both old lines s camera external).connectors ≡ old) × ((start_both old lines s camera external).lines ≡ lines)
  -- accepted, both are new ports of these settings, each with its measurement and an empty line
  pub camera_port : (old : Connectors) (lines : Lines) (s : Settings) (camera external : Measurement) → (start_both old lines s camera external).verdict ≡ Ok tt →
      (port_at (start_both old lines s camera external).connectors Camera ≡ started_port s camera) × ((start_both old lines s camera external).lines.camera ≡ blank)
  pub external_port : (old : Connectors) (lines : Lines) (s : Settings) (camera external : Measurement) → (start_both old lines s camera external).verdict ≡ Ok tt →
      (port_at (start_both old lines s camera external).connectors External ≡ started_port s external) × ((start_both old lines s camera external).lines.external ≡ blank)

-- ---- valid ports

abbrev pub BothValid : Connectors → Type 0
BothValid b = (a : Side) → valid_port (port_at b a) ≡ true

-- an accepted start makes both ports valid, and every entry keeps them so, the named one and the other; and a valid line
pub record KeptValid : Type 0 where
  pub start : (old : Connectors) (lines : Lines) (s : Settings) (camera external : Measurement) → (start_both old lines s camera external).verdict ≡ Ok tt →
      BothValid (start_both old lines s camera external).connectors
  pub receive : (b : Connectors) (n : ℕ) (l : Line) (x : ℕ) → BothValid b → BothValid (receive_at b n l x).connectors
  pub line : (b : Connectors) (n : ℕ) (l : Line) (x : ℕ) → valid_line l ≡ true → valid_line (receive_at b n l x).line ≡ true
  pub slot : (b : Connectors) (n : ℕ) → BothValid b → BothValid (slot_at b n).connectors
  pub measure : (b : Connectors) (n : ℕ) (m : Measurement) → BothValid b → BothValid (measure_at b n m).connectors
  pub fill : (b : Connectors) (n room : ℕ) → BothValid b → BothValid (fill_at b n room).connectors
  -- before its first start the box has no valid port
  pub unstarted : (a : Side) → valid_port (port_at unstarted_both a) ≡ false

pub record Promised : Type 0 where
  pub named : Named
  pub no_such_port : NoSuchPort
  pub unknown_same : UnknownSame
  pub as_the_port : AsThePort
  pub sixteen_at : SixteenAt
  pub refused_same : RefusedSame
  pub restart : Restart
  pub kept_valid : KeptValid
