-- "Demand 3 holds for each port in its own slots": over every order of both ports' calls, from an accepted restart and with no restart between. A port of
-- the box is the base's port, to which the other's X and Y are turns of the letter between its calls. Statements only.
use Rattle.std.specs.Prelude.{ℕ, ◌≤◌, true, List, [], ◌∷◌, ◌++◌, ◌↔◌, ◌≡◌, length, take, Ok, Some}
use Rattle.laws.specs.Member.{◌∈◌}
use Rattle.machine.specs.Machine.{run, sent, start}
use Rattle.machine.specs.Promised.{Promised}
use Rattle.fixed.specs.declared.Settings.{Settings}
use Rattle.units.specs.declared.Measurement.{Measurement}
use Rattle.bench_lens.specs.Bench.{bench_settings, bench_measurement}
use Rattle.line.specs.declared.Line.{Line}
use Rattle.line.specs.Line.{ends}
use Rattle.rules.specs.Lens.{lens}
use Rattle.rules.specs.Tight.{bench}
use Rattle.port.specs.Port.{started_port}
use Rattle.walk.specs.View.{bytes_of}
use Rattle.walk.specs.Calls.{view_of, events_all, bytes_all, FromStart}
use Rattle.walk.specs.Calls as one
use Rattle.walk.specs.InCalls.{slots_run, by_slots, taken_all, acted_all, waits_in, Acted, StaysOn, Recorded, WholeMessages}
use Rattle.connectors.specs.declared.Side.{Side}
use Rattle.connectors.specs.declared.Side.TheVariants.{Camera, External}
use Rattle.connectors.specs.declared.Connectors.{Connectors}
use Rattle.connectors.specs.declared.Lines.{Lines}
use Rattle.connectors.specs.declared.StartedBoth.{StartedBoth}
use Rattle.connectors.specs.declared.ReceivedAt.{ReceivedAt}
use Rattle.connectors.specs.declared.SlottedAt.{SlottedAt}
use Rattle.connectors.specs.declared.HandedAt.{HandedAt}
use Rattle.connectors.specs.declared.FilledAt.{FilledAt}
use Rattle.connectors.specs.Connectors.{side_of, port_at, line_at, with_line, start_both, receive_at}
use Rattle.connectors.specs.Clauses.{ConnectorsStart, ConnectorsReceive, ConnectorsSlot, ConnectorsMeasure, ConnectorsFill}
use Rattle.isolation.specs.Calls.{Both, held_at, Asked, receive, slots_once, measure, fill, Call, restart, on, after, after_all, bytes_in, bytes_at, slots_at, taken_at, acted_at, seen_at}
use Rattle.isolation.specs.Answers.{slots_filled, started, received, slotted, measured, filled, answer_to}

-- no restart is among the calls
abbrev pub Unrestarted : List Call → Type 0
Unrestarted [] = Unit {0}
Unrestarted (restart s camera external ∷ cs) = ⊥
Unrestarted (on n q ∷ cs) = Unrestarted cs

-- of the two measurements that a restart is handed, this port's
abbrev pub measurement_at : Side → Measurement → Measurement → Measurement
measurement_at Camera camera external = camera
measurement_at External camera external = external

-- what the driver holds after some calls, from an accepted restart and with none between
pub record FromRestart (h : Both) : Type 0 where
  pub old : Both
  pub settings : Settings
  pub camera : Measurement
  pub external : Measurement
  pub accepted : (start_both old.connectors old.lines settings camera external).verdict ≡ Ok tt
  pub calls : List Call
  pub unrestarted : Unrestarted calls
  pub held : h ≡ after_all (after old (restart settings camera external)) calls

-- ---- the calls are the entries

abbrev pub both_with : Connectors → Lines → Both
both_with c l = record { connectors = c; lines = l }

pub record Entries : Type 0 where
  pub restarts : (h : Both) (s : Settings) (camera external : Measurement) (r : StartedBoth) → ConnectorsStart h.connectors h.lines s camera external r →
      both_with r.connectors r.lines ≡ after h (restart s camera external)
  -- a received byte is handed in with the line of its port
  pub receives : (h : Both) (a : Side) (n b : ℕ) (r : ReceivedAt) → side_of n ≡ Some a → ConnectorsReceive h.connectors n (line_at h.lines a) b r →
      both_with r.connectors (with_line h.lines a r.line) ≡ after h (on n (receive b))
  pub slots : (h : Both) (n : ℕ) (r : SlottedAt) → ConnectorsSlot h.connectors n r → both_with r.connectors h.lines ≡ after h (on n slots_once)
  pub slot_sends : (h : Both) (a : Side) (n : ℕ) (r : SlottedAt) → side_of n ≡ Some a → ConnectorsSlot h.connectors n r → bytes_of r.sent ≡ bytes_in a h (on n slots_once)
  pub measures : (h : Both) (n : ℕ) (m : Measurement) (r : HandedAt) → ConnectorsMeasure h.connectors n m r → both_with r.connectors h.lines ≡ after h (on n (measure m))
  pub fills : (h : Both) (n : ℕ) (out : List ℕ) (r : FilledAt) (left : List ℕ) → ConnectorsFill h.connectors n out r left →
      both_with r.connectors h.lines ≡ after h (on n (fill (length out)))
  pub fill_sends : (h : Both) (a : Side) (n : ℕ) (out : List ℕ) (r : FilledAt) (left : List ℕ) → FromRestart h → side_of n ≡ Some a → ConnectorsFill h.connectors n out r left →
      take r.count left ≡ bytes_in a h (on n (fill (length out)))
  -- and what an entry hands back is the answer: verdict, count, line, what was sent, and what the port then is
  pub restart_answers : (h : Both) (a : Side) (s : Settings) (camera external : Measurement) (r : StartedBoth) → ConnectorsStart h.connectors h.lines s camera external r →
      started r.verdict (held_at (both_with r.connectors r.lines) a) ≡ answer_to a h (restart s camera external)
  pub receive_answers : (h : Both) (a : Side) (n b : ℕ) (r : ReceivedAt) → side_of n ≡ Some a → ConnectorsReceive h.connectors n (line_at h.lines a) b r →
      received (record { verdict = r.verdict; port = port_at r.connectors a; line = r.line }) ≡ answer_to a h (on n (receive b))
  pub slot_answers : (h : Both) (a : Side) (n : ℕ) (r : SlottedAt) → side_of n ≡ Some a → ConnectorsSlot h.connectors n r →
      slotted (record { sent = r.sent; port = port_at r.connectors a }) ≡ answer_to a h (on n slots_once)
  pub measure_answers : (h : Both) (a : Side) (n : ℕ) (m : Measurement) (r : HandedAt) → side_of n ≡ Some a → ConnectorsMeasure h.connectors n m r →
      measured (record { verdict = r.verdict; port = port_at r.connectors a }) ≡ answer_to a h (on n (measure m))
  pub fill_answers : (h : Both) (a : Side) (n : ℕ) (out : List ℕ) (r : FilledAt) (left : List ℕ) → side_of n ≡ Some a → ConnectorsFill h.connectors n out r left →
      filled (record { verdict = r.verdict; count = r.count; port = port_at r.connectors a }) (slots_filled (length out) (port_at h.connectors a)) ≡ answer_to a h (on n (fill (length out)))

-- ---- a port of the box is the base's port

pub record EachPort : Type 0 where
  -- calls among which there is no restart, and they alone, are unrestarted
  pub unrestarted : (cs : List Call) → Unrestarted cs ↔ ((s : Settings) (camera external : Measurement) → restart s camera external ∈ cs → ⊥)
  -- what an accepted restart leaves is from a restart, and what is asked of a port leaves it so
  pub begins : (h : Both) (s : Settings) (camera external : Measurement) → (start_both h.connectors h.lines s camera external).verdict ≡ Ok tt →
      FromRestart (after h (restart s camera external))
  pub goes_on : (h : Both) (n : ℕ) (q : Asked) → FromRestart h → FromRestart (after h (on n q))
  -- its states, bytes and slots are those of the base's port over its own calls and the other's turns of the letter
  pub states : (a : Side) (h : Both) (cs : List Call) → Unrestarted cs → held_at (after_all h cs) a ≡ one.after_all (held_at h a) (seen_at a h cs)
  pub sends : (a : Side) (h : Both) (cs : List Call) → Unrestarted cs → bytes_at a h cs ≡ bytes_all (held_at h a) (seen_at a h cs)
  pub slots : (a : Side) (h : Both) (cs : List Call) → Unrestarted cs → slots_at a h cs ≡ slots_run (held_at h a) (seen_at a h cs)
  pub takes : (a : Side) (h : Both) (cs : List Call) → Unrestarted cs → taken_at a h cs ≡ taken_all (held_at h a) (seen_at a h cs)
  pub acts : (a : Side) (h : Both) (cs : List Call) → Unrestarted cs → acted_at a h cs ≡ acted_all (held_at h a) (seen_at a h cs)
  -- from an accepted restart each port is one that a start of the base's port and some calls leave: all that is proved of those holds of it
  pub from_start : (a : Side) (h : Both) → FromRestart h → FromStart (held_at h a)
  -- and a run of the paper's machine, state by state and byte by byte
  pub runs : (a : Side) (old : Both) (s : Settings) (camera external : Measurement) (cs : List Call) →
      (start_both old.connectors old.lines s camera external).verdict ≡ Ok tt → Unrestarted cs →
      let h = after old (restart s camera external) in
      view_of (held_at (after_all h cs) a) ≡ run (start lens (started_port s (measurement_at a camera external)).source) (events_all (held_at h a) (seen_at a h cs))
  pub run_sends : (a : Side) (old : Both) (s : Settings) (camera external : Measurement) (cs : List Call) →
      (start_both old.connectors old.lines s camera external).verdict ≡ Ok tt → Unrestarted cs →
      let h = after old (restart s camera external) in
      bytes_at a h cs ≡ sent (start lens (started_port s (measurement_at a camera external)).source) (events_all (held_at h a) (seen_at a h cs))

-- ---- demand 3, in each port's own slots

pub record InOwnSlots (a : Side) (act_by reply-by record_by_lem : ℕ) : Type 0 where
  -- of the machine that each port runs
  pub promised : (old : Both) (s : Settings) (camera external : Measurement) →
      (start_both old.connectors old.lines s camera external).verdict ≡ Ok tt →
      Promised lens act_by reply-by record_by_lem (started_port s (measurement_at a camera external)).source
  -- "a command taken is acted on, in the order taken,"
  pub in_order : (h : Both) (cs : List Call) → FromRestart h → Unrestarted cs →
      waits_in (held_at h a) ++ taken_at a h cs ≡ acted_at a h cs ++ waits_in (held_at (after_all h cs) a)
  -- "at or before the 156th slot after its carriage return, and the last byte of its reply, if it has one, leaves at or before the 233rd."
  pub acted_in_time : (h : Both) (n b : ℕ) (cs : List Call) → FromRestart h → Unrestarted cs → side_of n ≡ Some a → ends (line_at h.lines a) b ≡ true →
      (receive_at h.connectors n (line_at h.lines a) b).verdict ≡ Ok tt →
      let k = after h (on n (receive b)) in
      act_by ≤ slots_at a k cs → Acted act_by reply-by (held_at k a) (line_at h.lines a) (by_slots (held_at k a) (seen_at a k cs))
  -- so once the port has run 156 slots, it is the first line that the port acted on
  pub acted_first : (h : Both) (n b : ℕ) (cs : List Call) → FromRestart h → Unrestarted cs → side_of n ≡ Some a → ends (line_at h.lines a) b ≡ true →
      (receive_at h.connectors n (line_at h.lines a) b).verdict ≡ Ok tt →
      let k = after h (on n (receive b)) in
      act_by ≤ slots_at a k cs → (more : List Line) × (acted_at a k cs ≡ line_at h.lines a ∷ more)
  -- "While continuous sending stays on, a new record's first byte leaves at or before the 79th slot after the last byte of the record before."
  pub record_in_time : (h : Both) (cs : List Call) → FromRestart h → Unrestarted cs →
      (port_at h.connectors a).message.at ≡ (port_at h.connectors a).message.len →
      StaysOn (held_at h a) (by_slots (held_at h a) (seen_at a h cs)) → record_by_lem ≤ slots_at a h cs → Recorded record_by_lem (held_at h a) (by_slots (held_at h a) (seen_at a h cs))
  -- "The bytes sent are whole messages end to end, each the one the rules give in the slot it starts; the last may be unfinished."
  pub whole_messages : (old : Both) (s : Settings) (camera external : Measurement) (cs : List Call) →
      (start_both old.connectors old.lines s camera external).verdict ≡ Ok tt → Unrestarted cs →
      let h = after old (restart s camera external) in
      WholeMessages (held_at h a) (seen_at a h cs)

abbrev pub Demand3EachPort : Type 0
Demand3EachPort = (a : Side) → InOwnSlots a 156 233 79

-- no bound is too large: a restart with the bench lens is accepted, and leaves at each port the lens of which `Tight` is proved; so no smaller number holds
pub record TightEachPort : Type 0 where
  pub accepted : (h : Both) → (start_both h.connectors h.lines (bench_settings 0x49) bench_measurement bench_measurement).verdict ≡ Ok tt
  pub leaves : (a : Side) (h : Both) → (held_at (after h (restart (bench_settings 0x49) bench_measurement bench_measurement)) a).port.source ≡ bench
  pub act_tight : (a : Side) (n k : ℕ) → InOwnSlots a 155 n k → ⊥
  pub reply_tight : (a : Side) (n k : ℕ) → InOwnSlots a n 232 k → ⊥
  pub record_tight : (a : Side) (n k : ℕ) → InOwnSlots a n k 78 → ⊥
