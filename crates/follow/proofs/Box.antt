-- The lines of a capture on both ports as calls of the box: what is asked of one port is the base's calls there, put back; of the other nothing.
-- Assumes nothing.
use Prim.Native.Nat.{ℕ, zero, suc, ◌+◌}
use mathlib.Core.Bool.{Bool, true, false, cond}
use mathlib.Core.List.{List, [], ◌∷◌, ◌++◌, append_assoc, append-nil}
use mathlib.Core.Path.{◌≡◌, refl, sym, ap, subst, ◌∙◌}
use native.Mathlib.Omega.{arith}
use lib.ListN.{replicate}
use Rattle.std.specs.Prelude.{Ok}
use Rattle.machine.specs.Machine.{sent, start}
use Rattle.machine.specs.Promised.{Promised}
use Rattle.units.specs.declared.Measurement.{Measurement}
use Rattle.bench_lens.specs.Bench.{bench_settings, bench_measurement}
use Rattle.state.specs.declared.Source.{Source}
use Rattle.rules.specs.Lens.{lens}
use Rattle.rules.specs.Promise.{act_by, reply_by, record_by}
use Rattle.port.specs.Port.{started_port}
use Rattle.walk.specs.Calls.{events_all, bytes_all}
use Rattle.walk.specs.Calls as one
use Rattle.walk.specs.InCalls.{slots_in, slots_run}
use Rattle.connectors.specs.declared.Side.{Side}
use Rattle.connectors.specs.declared.Side.TheVariants.{Camera, External}
use Rattle.connectors.specs.Connectors.{side_of, blank_lines, unstarted_both}
use Rattle.connectors.specs.Promises.{opposite}
use Rattle.isolation.specs.Calls.{Both, held_at, with_held, is_side, Asked, asks, slots_once, Call, after, after_all, bytes_in, bytes_at, slots_at, seen_at}
use Rattle.isolation.specs.EachPort.{Unrestarted, measurement_at, FromRestart}
use Rattle.isolation.proofs.EachPort.{each_port, in_own_slots}
use Rattle.capture.specs.declared.Event.{Event}
use Rattle.capture.specs.declared.Event.TheVariants.{Received, Slots, Measured, Other}
use Rattle.telling.specs.Telling.{is_over, slots_left, tell_of}
use Rattle.telling.specs.declared.Run.{Run}
use Rattle.telling.proofs.Promises as telling
use Rattle.runs.specs.Runs.{event_at, run_at, start_runs, tell_at}
use Rattle.runs.specs.declared.Addressed.{Addressed}
use Rattle.runs.specs.declared.Runs.{Runs}
use Rattle.runs.proofs.Promises.{each_call}
use Rattle.follow.specs.Replay.{lines}
use Rattle.follow.specs.Both.{tell_both}
use Rattle.follow.specs.Calls.{held_by, calls_by, calls_of, shown}
use Rattle.follow.specs.Box.{box_by, asks_by, asks_of, on_port, calls_both, text_on, OfTheBox}
use Rattle.follow.proofs.Calls.{event_number, event_state}
use Rattle.follow.proofs.Shown.{Shows, shows_none, shows_both, shows_told}

-- ---- calls behind calls

calls_after : (h : Both) (cs ds : List Call) → after_all h (cs ++ ds) ≡ after_all (after_all h cs) ds
unfolding after_all
calls_after h [] ds = refl
calls_after h (c ∷ cs) ds = calls_after (after h c) cs ds

module _ (a : Side) where
  calls_slots : (h : Both) (cs ds : List Call) → slots_at a h (cs ++ ds) ≡ slots_at a h cs + slots_at a (after_all h cs) ds
  unfolding slots_at after_all
  calls_slots h [] ds = omega arith
  calls_slots h (c ∷ cs) ds = let e = calls_slots (after h c) cs ds in omega arith

  calls_bytes : (h : Both) (cs ds : List Call) → bytes_at a h (cs ++ ds) ≡ bytes_at a h cs ++ bytes_at a (after_all h cs) ds
  unfolding bytes_at after_all
  calls_bytes h [] ds = refl
  calls_bytes h (c ∷ cs) ds = ap (λ (s : List ℕ). bytes_in a h c ++ s) (calls_bytes (after h c) cs ds) ∙ sym (append_assoc (bytes_in a h c) _ _)

-- ---- what is asked of one port

-- as calls of the base's port
asks_all : List Asked → List one.Call
asks_all [] = []
asks_all (q ∷ qs) = asks q ∷ asks_all qs

record OnSide (a : Side) (h : Both) (qs : List Asked) : Type 0 where
  leaves : after_all h (on_port a qs) ≡ with_held h a (one.after_all (held_at h a) (asks_all qs))
  runs : slots_at a h (on_port a qs) ≡ slots_run (held_at h a) (asks_all qs)
  runs_none : slots_at (opposite a) h (on_port a qs) ≡ 0
  sends : bytes_at a h (on_port a qs) ≡ bytes_all (held_at h a) (asks_all qs)
  sends_none : bytes_at (opposite a) h (on_port a qs) ≡ []

on_side : (a : Side) (h : Both) (qs : List Asked) → OnSide a h qs
unfolding side_of asks_all after_all one.after_all slots_at slots_run bytes_at bytes_all
on_side Camera h [] = record { leaves = refl; runs = refl; runs_none = refl; sends = refl; sends_none = refl }
on_side External h [] = record { leaves = refl; runs = refl; runs_none = refl; sends = refl; sends_none = refl }
on_side Camera h (q ∷ qs) =
    let x = held_at h Camera in
    let i = on_side Camera (with_held h Camera (one.after x (asks q))) qs in
    record {
      leaves = i.leaves;
      runs = ap (λ (n : ℕ). slots_in x (asks q) + n) i.runs;
      runs_none = let n = i.runs_none in omega arith;
      sends = ap (λ (s : List ℕ). one.bytes x (asks q) ++ s) i.sends;
      sends_none = i.sends_none;
    }
on_side External h (q ∷ qs) =
    let x = held_at h External in
    let i = on_side External (with_held h External (one.after x (asks q))) qs in
    record {
      leaves = i.leaves;
      runs = ap (λ (n : ℕ). slots_in x (asks q) + n) i.runs;
      runs_none = let n = i.runs_none in omega arith;
      sends = ap (λ (s : List ℕ). one.bytes x (asks q) ++ s) i.sends;
      sends_none = i.sends_none;
    }

-- ---- an event

asks_slots : (n : ℕ) → asks_all (replicate n slots_once) ≡ replicate n one.slots_once
unfolding asks_all
asks_slots zero = refl
asks_slots (suc n) = ap (λ (cs : List one.Call). one.slots_once ∷ cs) (asks_slots n)

asks_by_lem : (r : Run) (e : Event) → asks_all (asks_by r e) ≡ calls_by r e
unfolding asks_all
asks_by_lem r (Received b) = refl
asks_by_lem r (Slots n) = asks_slots (slots_left r n)
asks_by_lem r (Measured m) = refl
asks_by_lem r Other = refl

-- what it asks is the base's calls
asks_of_lem : (r : Run) (e : Event) → asks_all (asks_of r e) ≡ calls_of r e
unfolding asks_of calls_of asks_all
asks_of_lem r e = by_end (is_over r)
  where
    by_end : (o : Bool) → asks_all (cond o [] (asks_by r e)) ≡ cond o [] (calls_by r e)
    by_end true = refl
    by_end false = asks_by_lem r e

module _ (r : Runs) (x : Addressed) where
  abbrev q : Run
  q = run_at r x.side

  abbrev asked : List Asked
  asked = asks_of q x.event

  side : OnSide x.side (box_by r) asked
  side = on_side x.side (box_by r) asked

  event_box : box_by (tell_at r x).runs ≡ after_all (box_by r) (on_port x.side asked)
  unfolding tell_at
  event_box =
      ap (with_held (box_by r) x.side) (event_state q x.event ∙ ap (one.after_all (held_by q)) (sym (asks_of_lem q x.event)))
      ∙ sym side.leaves

  event_ran : (tell_at r x).runs.slots ≡ r.slots + slots_run (held_by q) (asks_all asked)
  unfolding tell_at
  event_ran = event_number q x.event ∙ ap (λ (cs : List one.Call). r.slots + slots_run (held_by q) cs) (sym (asks_of_lem q x.event))

  event_shows : Shows (tell_at r x).text (bytes_all (held_by q) (asks_all asked))
  unfolding tell_at
  event_shows = subst (λ (cs : List one.Call). Shows (tell_of q x.event).text (bytes_all (held_by q) cs)) (sym (asks_of_lem q x.event)) (shows_told q x.event)

-- the slots of both ports are its own, for the other runs none
both_slots : (a : Side) (h : Both) (qs : List Asked) → slots_at Camera h (on_port a qs) + slots_at External h (on_port a qs) ≡ slots_run (held_at h a) (asks_all qs)
both_slots Camera h qs = let i = on_side Camera h qs in let m = i.runs in let n = i.runs_none in omega arith
both_slots External h qs = let i = on_side External h qs in let m = i.runs in let n = i.runs_none in omega arith

-- of a port its own lines show its bytes, and the other's none
port_shows : (b a : Side) (h : Both) (qs : List Asked) {text : List ℕ} → Shows text (bytes_all (held_at h a) (asks_all qs)) →
    Shows (cond (is_side b a) text []) (bytes_at b h (on_port a qs))
port_shows Camera Camera h qs {text} s = subst (Shows text) (sym (on_side Camera h qs).sends) s
port_shows External External h qs {text} s = subst (Shows text) (sym (on_side External h qs).sends) s
port_shows Camera External h qs s = subst (Shows []) (sym (on_side External h qs).sends_none) shows_none
port_shows External Camera h qs s = subst (Shows []) (sym (on_side Camera h qs).sends_none) shows_none

-- ---- lines

module _ (ports : Bool) where
  states : (r : Runs) (ls : List (List ℕ)) → box_by (tell_both ports r ls).runs ≡ after_all (box_by r) (calls_both ports r ls)
  unfolding tell_both calls_both after_all
  states r [] = refl
  states r (l ∷ ls) =
      let x = event_at ports l in
      let cs = on_port x.side (asked r x) in
      let ds = calls_both ports (tell_at r x).runs ls in
      states (tell_at r x).runs ls ∙ ap (λ (h : Both). after_all h ds) (event_box r x) ∙ sym (calls_after (box_by r) cs ds)

  number : (r : Runs) (ls : List (List ℕ)) →
      let cs = calls_both ports r ls in
      (tell_both ports r ls).runs.slots ≡ r.slots + (slots_at Camera (box_by r) cs + slots_at External (box_by r) cs)
  unfolding tell_both calls_both slots_at
  number r [] = omega arith
  number r (l ∷ ls) =
      let x = event_at ports l in
      let cs = on_port x.side (asked r x) in
      let ds = calls_both ports (tell_at r x).runs ls in
      let moved : (a : Side) → slots_at a (box_by (tell_at r x).runs) ds ≡ slots_at a (after_all (box_by r) cs) ds = λ a. ap (λ (h : Both). slots_at a h ds) (event_box r x) in
      let c = calls_slots Camera (box_by r) cs ds in
      let e = calls_slots External (box_by r) cs ds in
      let mc = moved Camera in
      let me = moved External in
      let own = both_slots x.side (box_by r) (asked r x) in
      let one = event_ran r x in
      let rest = number (tell_at r x).runs ls in
      omega arith

  shows_port : (a : Side) (r : Runs) (ls : List (List ℕ)) → Shows (text_on a ports r ls) (bytes_at a (box_by r) (calls_both ports r ls))
  unfolding text_on calls_both bytes_at
  shows_port a r [] = shows_none
  shows_port a r (l ∷ ls) =
      let x = event_at ports l in
      let cs = on_port x.side (asked r x) in
      let ds = calls_both ports (tell_at r x).runs ls in
      subst (Shows (text_on a ports r (l ∷ ls)))
      (ap (λ (h : Both). bytes_at a (box_by r) cs ++ bytes_at a h ds) (event_box r x) ∙ sym (calls_bytes a (box_by r) cs ds))
      (shows_both (port_shows a x.side (box_by r) (asked r x) (event_shows r x)) (shows_port a (tell_at r x).runs ls))

  bytes : (a : Side) (r : Runs) (ls : List (List ℕ)) → shown (lines (text_on a ports r ls)) ≡ bytes_at a (box_by r) (calls_both ports r ls)
  unfolding lines shown
  bytes a r ls = ap (λ (s : List ℕ). shown (lines s)) (sym (append-nil (text_on a ports r ls))) ∙ (shows_port a r ls).first [] ∙ append-nil _

  on_unrestarted : (a : Side) (qs : List Asked) (cs : List Call) → Unrestarted cs → Unrestarted (on_port a qs ++ cs)
  on_unrestarted a [] cs u = u
  on_unrestarted a (q ∷ qs) cs u = on_unrestarted a qs cs u

  unrestarted : (r : Runs) (ls : List (List ℕ)) → Unrestarted (calls_both ports r ls)
  unfolding calls_both
  unrestarted r [] = tt
  unrestarted r (l ∷ ls) = let x = event_at ports l in on_unrestarted x.side (asked r x) _ (unrestarted (tell_at r x).runs ls)

-- ---- a start

abbrev unstarted_box : Both
unstarted_box = record { connectors = unstarted_both; lines = blank_lines }

module _ (letter : ℕ) (d : (start_runs letter).verdict ≡ Ok tt) where
  from_start : FromRestart (box_by (start_runs letter).runs)
  unfolding start_runs after_all
  from_start = record {
    old = unstarted_box;
    settings = bench_settings letter;
    camera = bench_measurement;
    external = bench_measurement;
    accepted = d;
    calls = [];
    unrestarted = tt;
    held = refl;
  }

  one_measurement : (a : Side) → measurement_at a bench_measurement bench_measurement ≡ bench_measurement
  one_measurement Camera = refl
  one_measurement External = refl

  source_is : (a : Side) → (started_port (bench_settings letter) (measurement_at a bench_measurement bench_measurement)).source ≡ (run_at (start_runs letter).runs a).port.source
  source_is a =
      ap (λ (m : Measurement). (started_port (bench_settings letter) m).source) (one_measurement a)
      ∙ sym (ap (λ (r : Run). r.port.source) (each_call.start_run letter a ∙ (telling.each_call).start_is letter (sym (each_call.start_verdict_lem letter) ∙ d)))

  sends : (a : Side) (ports : Bool) (ls : List (List ℕ)) →
      let r = (start_runs letter).runs in
      shown (lines (text_on a ports r ls))
      ≡ sent (start lens (run_at r a).port.source) (events_all (held_at (box_by r) a) (seen_at a (box_by r) (calls_both ports r ls)))
  unfolding start_runs
  sends a ports ls =
      let r = (start_runs letter).runs in
      let cs = calls_both ports r ls in
      bytes ports a r ls
      ∙ each_port.run_sends a unstarted_box (bench_settings letter) bench_measurement bench_measurement cs d (unrestarted ports r ls)
      ∙ ap (λ (s : Source). sent (start lens s) (events_all (held_at (box_by r) a) (seen_at a (box_by r) cs))) (source_is a)

  demand3 : (a : Side) → Promised lens act_by reply_by record_by (run_at (start_runs letter).runs a).port.source
  unfolding start_runs
  demand3 a =
      subst (Promised lens act_by reply_by record_by) (source_is a)
      ((in_own_slots a).promised unstarted_box (bench_settings letter) bench_measurement bench_measurement d)

pub of_the_box : OfTheBox
of_the_box = record {
  from_start = from_start;
  unrestarted = unrestarted;
  states = states;
  number = number;
  bytes = λ a ports r ls. bytes ports a r ls;
  sends = λ a ports letter ls d. sends letter d a ports ls;
  demand3 = λ a letter d. demand3 letter d a;
}
