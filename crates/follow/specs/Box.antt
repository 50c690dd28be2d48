-- The lines of a capture on both ports as calls of the box (crate isolation): its states, its slots and its bytes are those of the calls, and so each port
-- is a run of the machine, of which demand 3 is proved. Definitions and statements only.
use Rattle.std.specs.Prelude.{ℕ, ◌+◌, Bool, cond, List, [], ◌∷◌, ◌++◌, ◌≡◌, replicate, Ok}
use Rattle.machine.specs.Machine.{sent, start}
use Rattle.machine.specs.Promised.{Promised}
use Rattle.rules.specs.Lens.{lens}
use Rattle.rules.specs.Promise.{act_by, reply_by, record_by}
use Rattle.walk.specs.Calls.{events_all}
use Rattle.connectors.specs.declared.Side.{Side}
use Rattle.connectors.specs.declared.Side.TheVariants.{Camera, External}
use Rattle.isolation.specs.Calls.{Both, held_at, is_side, Asked, receive, slots_once, measure, Call, on, after_all, bytes_at, slots_at, seen_at}
use Rattle.isolation.specs.EachPort.{Unrestarted, FromRestart}
use Rattle.capture.specs.declared.Event.{Event}
use Rattle.capture.specs.declared.Event.TheVariants.{Received, Slots, Measured, Other}
use Rattle.telling.specs.Telling.{is_over, slots_left}
use Rattle.telling.specs.declared.Run.{Run}
use Rattle.runs.specs.Runs.{event_at, run_at, start_runs, tell_at}
use Rattle.runs.specs.declared.Runs.{Runs}
use Rattle.follow.specs.Replay.{lines}
use Rattle.follow.specs.Both.{tell_both}
use Rattle.follow.specs.Calls.{shown}

-- what its driver keeps
abbrev pub box_by : Runs → Both
box_by r = record { connectors = r.connectors; lines = r.lines }

-- ---- the calls

-- what an event asks of its port; a run that is over asks nothing
abbrev pub asks_by : Run → Event → List Asked
asks_by r (Received b) = receive b ∷ []
asks_by r (Slots n) = replicate (slots_left r n) slots_once
asks_by r (Measured m) = measure m ∷ []
asks_by r Other = []

unfoldable pub asks_of : Run → Event → List Asked
asks_of r e = cond (is_over r) [] (asks_by r e)

abbrev pub port_number : Side → ℕ
port_number Camera = 0
port_number External = 1

abbrev pub on_port : Side → List Asked → List Call
on_port a [] = []
on_port a (q ∷ qs) = on (port_number a) q ∷ on_port a qs

unfoldable pub calls_both : Bool → Runs → List (List ℕ) → List Call
calls_both ports r [] = []
calls_both ports r (l ∷ ls) =
    let x = event_at ports l in
    on_port x.side (asks_of (run_at r x.side) x.event) ++ calls_both ports (tell_at r x).runs ls

-- what the lines of one port print
unfoldable pub text_on : Side → Bool → Runs → List (List ℕ) → List ℕ
text_on a ports r [] = []
text_on a ports r (l ∷ ls) =
    let x = event_at ports l in
    cond (is_side a x.side) (tell_at r x).text [] ++ text_on a ports (tell_at r x).runs ls

-- ---- what they come to

pub record OfTheBox : Type 0 where
  -- a start that is accepted is one of the box's, and no line restarts it
  pub from_start : (letter : ℕ) → (start_runs letter).verdict ≡ Ok tt → FromRestart (box_by (start_runs letter).runs)
  pub unrestarted : (ports : Bool) (r : Runs) (ls : List (List ℕ)) → Unrestarted (calls_both ports r ls)
  -- the box and both ports' lines are those of the calls
  pub states : (ports : Bool) (r : Runs) (ls : List (List ℕ)) → box_by (tell_both ports r ls).runs ≡ after_all (box_by r) (calls_both ports r ls)
  -- "`slots` counts both ports' slots"
  pub number : (ports : Bool) (r : Runs) (ls : List (List ℕ)) →
      let cs = calls_both ports r ls in
      (tell_both ports r ls).runs.slots ≡ r.slots + (slots_at Camera (box_by r) cs + slots_at External (box_by r) cs)
  -- the bytes that the lines of a port show are those that this port sends
  pub bytes : (a : Side) (ports : Bool) (r : Runs) (ls : List (List ℕ)) → shown (lines (text_on a ports r ls)) ≡ bytes_at a (box_by r) (calls_both ports r ls)
  -- and so the machine's, of which demand 3 is proved, for each port in its own slots: 156, 233 and 79
  pub sends : (a : Side) (ports : Bool) (letter : ℕ) (ls : List (List ℕ)) → (start_runs letter).verdict ≡ Ok tt →
      let r = (start_runs letter).runs in
      shown (lines (text_on a ports r ls))
      ≡ sent (start lens (run_at r a).port.source) (events_all (held_at (box_by r) a) (seen_at a (box_by r) (calls_both ports r ls)))
  pub demand3 : (a : Side) (letter : ℕ) → (start_runs letter).verdict ≡ Ok tt →
      Promised lens act_by reply_by record_by (run_at (start_runs letter).runs a).port.source
