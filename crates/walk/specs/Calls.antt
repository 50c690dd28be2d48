-- Demand 3 for the port itself: every sequence of calls of receive, slot, measure and fill, and of turns of the start-up letter at another connector, is
-- a run of the machine, from the state that a start leaves; a fill counts as the slots it runs. Statements only.
use Rattle.std.specs.Prelude.{ℕ, zero, suc, List, [], ◌∷◌, ◌++◌, ◌≡◌, replicate, Err, None, Ok, Option, Some}
use Rattle.refusal.specs.Answer.{Answer}
use Rattle.machine.specs.Machine.{State, Events, received, slot, given, run, sent, start}
use Rattle.machine.specs.Promised.{Promised}
use Rattle.fixed.specs.declared.Settings.{Settings}
use Rattle.units.specs.declared.Measurement.{Measurement}
use Rattle.line.specs.declared.Line.{Line}
use Rattle.rules.specs.Lens.{Turn, measurement, elsewhere, lens}
use Rattle.rules.specs.Promise.{act_by, reply_by, record_by}
use Rattle.port.specs.declared.Port.{Port}
use Rattle.port.specs.Port.{slot_of, receive_of, measure_of, started_port, start_of}
use Rattle.fill.specs.Fill.{run_of, fill_of}
use Rattle.walk.specs.View.{view, bytes_of}
use Rattle.walk.specs.Walk.{turned_port}

-- a call of the driver's; a turn is no call of this port's: the other connector of the box has acted on X or Y
pub data Call : Type 0 where
  receive : ℕ → Call
  slots_once : Call
  measure : Measurement → Call
  fill : ℕ → Call
  turn : Turn → Call

-- what the driver keeps: the port and the line
pub record Held : Type 0 where
  pub port : Port
  pub line : Line

-- seen as a state of the machine
abbrev pub view_of : Held → State lens
view_of h = view h.port h.line

abbrev pub after : Held → Call → Held
after h (receive b) = record { port = (receive_of h.port h.line b).port; line = (receive_of h.port h.line b).line }
after h slots_once = record { port = (slot_of h.port).port; line = h.line }
after h (measure m) = record { port = (measure_of h.port m).port; line = h.line }
after h (fill n) = record { port = (fill_of h.port n).port; line = h.line }
after h (turn t) = record { port = turned_port t h.port; line = h.line }

-- the bytes that a call hands to the line
abbrev pub bytes : Held → Call → List ℕ
bytes h (receive b) = []
bytes h slots_once = bytes_of (slot_of h.port).sent
bytes h (measure m) = []
bytes h (fill n) = (run_of n h.port).bytes
bytes h (turn t) = []

-- how many slots a fill runs: one for each byte, and the idle one, if it ended so (no slot of a port from a start is refused: `slot_16` in Answers)
abbrev pub ran_by : Answer (Option ℕ) → ℕ → ℕ
ran_by (Ok (Some b)) n = suc n
ran_by (Ok None) n = 1
ran_by (Err r) n = 1

unfoldable pub ran : ℕ → Port → ℕ
ran zero p = 0
ran (suc n) p = ran_by (slot_of p).sent (ran n (slot_of p).port)

-- the machine's events of a call
abbrev pub events_of : Held → Call → Events lens
events_of h (receive b) = received b ∷ []
events_of h slots_once = slot ∷ []
events_of h (measure m) = given (measurement m) ∷ []
events_of h (fill n) = replicate (ran n h.port) slot
events_of h (turn t) = given (elsewhere t) ∷ []

-- and of a list of calls: the state after them, their bytes, their events, end to end
unfoldable pub after_all : Held → List Call → Held
after_all h [] = h
after_all h (c ∷ cs) = after_all (after h c) cs

unfoldable pub bytes_all : Held → List Call → List ℕ
bytes_all h [] = []
bytes_all h (c ∷ cs) = bytes h c ++ bytes_all (after h c) cs

unfoldable pub events_all : Held → List Call → Events lens
events_all h [] = []
events_all h (c ∷ cs) = events_of h c ++ events_all (after h c) cs

-- what a start hands the driver
abbrev pub begun : Port → Line → Settings → Measurement → Held
begun old l s m = record { port = (start_of old l s m).port; line = (start_of old l s m).line }

-- what the driver holds after some calls, from an accepted start and with no restart between
pub record FromStart (h : Held) : Type 0 where
  pub old : Port
  pub old_line : Line
  pub settings : Settings
  pub measurement : Measurement
  pub accepted : (start_of old old_line settings measurement).verdict ≡ Ok tt
  pub calls : List Call
  pub held : h ≡ after_all (begun old old_line settings measurement) calls

pub record OfThePort : Type 0 where
  -- the states of the port, call by call, are those of the machine from its start
  pub states : (old : Port) (l : Line) (s : Settings) (m : Measurement) (cs : List Call) → (start_of old l s m).verdict ≡ Ok tt →
      let h = begun old l s m in
      view (after_all h cs).port (after_all h cs).line ≡ run (start lens (started_port s m).source) (events_all h cs)
  -- and the bytes sent are the machine's
  pub sends : (old : Port) (l : Line) (s : Settings) (m : Measurement) (cs : List Call) → (start_of old l s m).verdict ≡ Ok tt →
      let h = begun old l s m in
      bytes_all h cs ≡ sent (start lens (started_port s m).source) (events_all h cs)
  -- of which demand 3 is proved: 156, 233 and 79
  pub demand3 : (old : Port) (l : Line) (s : Settings) (m : Measurement) → (start_of old l s m).verdict ≡ Ok tt →
      Promised lens act_by reply_by record_by (started_port s m).source
