-- The port and the paper's machine walk together: what each entry makes of a valid port is what the machine makes of its view. Statements only.
use Rattle.std.specs.Prelude.{ℕ, true, ◌≡◌, length, Ok}
use Rattle.machine.specs.Machine.{received, slot, given, next, shows, sent_in, start}
use Rattle.fixed.specs.declared.Settings.{Settings}
use Rattle.units.specs.declared.Measurement.{Measurement}
use Rattle.line.specs.declared.Line.{Line}
use Rattle.line.specs.Line.{valid_line}
use Rattle.state.specs.State.{message_length}
use Rattle.rules.specs.Lens.{Turn, turned, measurement, elsewhere, lens}
use Rattle.port.specs.declared.Port.{Port}
use Rattle.port.specs.Port.{valid_port, slot_of, receive_of, measure_of, started_port, start_of}
use Rattle.walk.specs.View.{view, bytes_of}

-- a valid port whose buffer is as long as its type says
pub record Sound (p : Port) : Type 0 where
  pub valid : valid_port p ≡ true
  pub long : length p.message.bytes ≡ message_length

-- the other connector of the box has acted on X or Y
abbrev pub turned_port : Turn → Port → Port
turned_port t p = record { source = turned t p.source; message = p.message; last = p.last; waiting = p.waiting }

pub record Walks : Type 0 where
  -- an accepted start is the machine's start
  pub start_walks : (old : Port) (l : Line) (s : Settings) (m : Measurement) → (start_of old l s m).verdict ≡ Ok tt →
      view (start_of old l s m).port (start_of old l s m).line ≡ start lens (started_port s m).source
  -- a slot leaves the machine's next state, and sends its bytes
  pub slot_walks : (p : Port) (l : Line) → Sound p → view (slot_of p).port l ≡ next (view p l) slot
  pub slot_sends : (p : Port) (l : Line) → Sound p → bytes_of (slot_of p).sent ≡ sent_in (shows (view p l) slot)
  -- so does a received byte
  pub receive_walks : (p : Port) (l : Line) (b : ℕ) → Sound p → valid_line l ≡ true → view (receive_of p l b).port (receive_of p l b).line ≡ next (view p l) (received b)
  -- and a new measurement, which changes nothing where it is refused
  pub measure_walks : (p : Port) (l : Line) (m : Measurement) → Sound p → view (measure_of p m).port l ≡ next (view p l) (given (measurement m))
  -- and an X or Y acted on at the other connector
  pub turn_walks : (p : Port) (l : Line) (t : Turn) → view (turned_port t p) l ≡ next (view p l) (given (elsewhere t))
  -- and a sound port stays sound
  pub slot_sound : (p : Port) → Sound p → Sound (slot_of p).port
