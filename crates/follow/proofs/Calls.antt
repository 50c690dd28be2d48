-- The lines of a capture as calls of the port, line by line: the same states, the same slots, and the bytes that the text shows. Assumes nothing.
use Prim.Native.Nat.{ℕ, zero, suc, ◌+◌}
use mathlib.Core.Bool.{Bool, true, false, cond}
use mathlib.Core.List.{List, [], ◌∷◌, ◌++◌}
use mathlib.Core.Path.{◌≡◌, refl, sym, ap, ◌∙◌}
use native.Mathlib.Omega.{arith}
use lib.ListN.{replicate}
use Rattle.std.specs.Prelude.{Ok}
use Rattle.machine.specs.Machine.{slots}
use Rattle.bench_lens.specs.Bench.{bench_settings, bench_measurement}
use Rattle.line.specs.Line.{blank}
use Rattle.port.specs.Port.{unstarted}
use Rattle.walk.specs.Calls.{Call, slots_once, Held, after, after_all, events_all, FromStart}
use Rattle.walk.specs.InCalls.{slots_run}
use Rattle.walk.proofs.BySlots.{after_append, slots_are}
use Rattle.capture.specs.Capture.{event_of}
use Rattle.capture.specs.declared.Event.{Event}
use Rattle.capture.specs.declared.Event.TheVariants.{Received, Slots, Measured, Other}
use Rattle.printed.specs.Printed.{after_slots}
use Rattle.telling.specs.Telling.{start_with, is_over, slots_left, Telling, tells, tell_of}
use Rattle.telling.specs.declared.Run.{Run}
use Rattle.follow.specs.Replay.{tell_all}
use Rattle.follow.specs.Calls.{held_by, calls_by, calls_of, calls_in}

-- ---- slots in a row

slots_after : (n : ℕ) (h : Held) → after_all h (replicate n slots_once) ≡ record { port = after_slots n h.port; line = h.line }
unfolding after_all after_slots
slots_after zero h = refl
slots_after (suc n) h = slots_after n (after h slots_once)

slots_count : (n : ℕ) (h : Held) → slots_run h (replicate n slots_once) ≡ n
unfolding slots_run
slots_count zero h = refl
slots_count (suc n) h = let e = slots_count n (after h slots_once) in omega arith

-- ---- an event

-- what an event comes to: the port and line of its calls, and their slots
record Comes (r : Run) (t : Telling) (cs : List Call) : Type 0 where
  state : held_by t.run ≡ after_all (held_by r) cs
  number : t.run.slots ≡ r.slots + slots_run (held_by r) cs

by_event : (r : Run) (e : Event) → Comes r (tells r e) (calls_by r e)
unfolding tells after_all slots_run
by_event r (Received b) = record { state = refl; number = omega arith }
by_event r (Slots n) = record {
  state = sym (slots_after (slots_left r n) (held_by r));
  number = ap (λ (k : ℕ). r.slots + k) (sym (slots_count (slots_left r n) (held_by r)));
}
by_event r (Measured m) = record { state = refl; number = omega arith }
by_event r Other = record { state = refl; number = omega arith }

-- a run that is over makes no call, and comes to itself
over_comes : (r : Run) → Comes r (record { text = []; run = r }) []
unfolding after_all slots_run
over_comes r = record { state = refl; number = omega arith }

-- a choice between two events' ends and their calls
pub both : (P : Telling → List Call → Type 0) (b : Bool) {t u : Telling} {cs ds : List Call} → P t cs → P u ds → P (cond b t u) (cond b cs ds)
both P true p q = p
both P false p q = q

event_comes : (r : Run) (e : Event) → Comes r (tell_of r e) (calls_of r e)
unfolding tell_of calls_of
event_comes r e = both (Comes r) (is_over r) (over_comes r) (by_event r e)

pub event_number : (r : Run) (e : Event) → (tell_of r e).run.slots ≡ r.slots + slots_run (held_by r) (calls_of r e)
event_number r e = (event_comes r e).number

pub event_state : (r : Run) (e : Event) → held_by (tell_of r e).run ≡ after_all (held_by r) (calls_of r e)
event_state r e = (event_comes r e).state

-- ---- lines

run_append : (h : Held) (cs ds : List Call) → slots_run h (cs ++ ds) ≡ slots_run h cs + slots_run (after_all h cs) ds
unfolding slots_run after_all
run_append h [] ds = omega arith
run_append h (c ∷ cs) ds = let e = run_append (after h c) cs ds in omega arith

all_come : (r : Run) (ls : List (List ℕ)) → Comes r (tell_all r ls) (calls_in r ls)
unfolding tell_all calls_in after_all slots_run
all_come r [] = record { state = refl; number = omega arith }
all_come r (l ∷ ls) =
    let t = tell_of r (event_of l) in
    let cs = calls_of r (event_of l) in
    let ds = calls_in t.run ls in
    let a = event_comes r (event_of l) in
    let b = all_come t.run ls in
    record {
      state = b.state ∙ ap (λ (h : Held). after_all h ds) a.state ∙ sym (after_append (held_by r) cs ds);
      number =
          let more = run_append (held_by r) cs ds in
          let moved = ap (λ (h : Held). slots_run h ds) a.state in
          let n = a.number in
          let m = b.number in
          omega arith;
    }

pub states : (r : Run) (ls : List (List ℕ)) → held_by (tell_all r ls).run ≡ after_all (held_by r) (calls_in r ls)
states r ls = (all_come r ls).state

pub by_calls : (r : Run) (ls : List (List ℕ)) → (tell_all r ls).run.slots ≡ r.slots + slots_run (held_by r) (calls_in r ls)
by_calls r ls = (all_come r ls).number

pub number : (r : Run) (ls : List (List ℕ)) → (tell_all r ls).run.slots ≡ r.slots + slots (events_all (held_by r) (calls_in r ls))
number r ls = by_calls r ls ∙ ap (λ (k : ℕ). r.slots + k) (slots_are (held_by r) (calls_in r ls))

-- ---- a start

pub from_start : (letter : ℕ) → (start_with letter).verdict ≡ Ok tt → FromStart (held_by (start_with letter).run)
unfolding start_with after_all
from_start letter e = record {
  old = unstarted;
  old_line = blank;
  settings = bench_settings letter;
  measurement = bench_measurement;
  accepted = e;
  calls = [];
  held = refl;
}
