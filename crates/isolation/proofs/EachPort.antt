-- Each port of the box is the base's port, so demand 3 holds for it. Assumes nothing.
use Prim.Native.Nat.{ℕ, ◌≤◌}
use mathlib.Core.Bool.{true, cond}
use mathlib.Core.List.{List, [], ◌∷◌, ◌++◌}
use mathlib.Core.Path.{◌≡◌, refl, sym, ap, ap₂, subst, ◌∙◌}
use mathlib.Core.Logic.{inl, inr}
use Rattle.std.specs.Prelude.{None, Ok, Option, Some}
use Rattle.laws.specs.Member.{◌∈◌}
use Rattle.laws.proofs.Tests.{never}
use lib.ListN.{length, take}
use Rattle.laws.proofs.Tests.{cond_yes}
use Rattle.machine.specs.Machine.{run, sent, start}
use Rattle.machine.specs.Promised.{Promised}
use Rattle.fixed.specs.declared.Settings.{Settings}
use Rattle.units.specs.declared.Measurement.{Measurement}
use Rattle.line.specs.declared.Line.{Line}
use Rattle.line.specs.Line.{blank}
use Rattle.rules.specs.Lens.{lens}
use Rattle.rules.specs.Tight.{bench}
use Rattle.rules.proofs.Tight.{tight}
use Rattle.rules.proofs.Valid.{valid_told}
use Rattle.port.specs.declared.Port.{Port}
use Rattle.port.specs.Port.{receive_of, unit_of, start_verdict, started_port, start_of}
use Rattle.port.proofs.Promises.{start_verdict_lem, leaves_new}
use Rattle.port.proofs.Cases.{good_settings}
use Rattle.fill.specs.Fill.{fill_of, fill_leaves}
use Rattle.walk.specs.View.{bytes_of}
use Rattle.walk.specs.Calls.{Held, view_of, events_all, begun, FromStart}
use Rattle.walk.specs.Calls as one
use Rattle.walk.specs.InCalls.{slots_run, by_slots, acted_all, waits_in, Acted, WholeMessages}
use Rattle.walk.proofs.Calls.{of_the_port}
use Rattle.walk.proofs.InCalls.{in_calls}
use Rattle.walk.proofs.Entries as port-walk
use Rattle.walk.proofs.TightStart.{tight_start}
use Rattle.connectors.specs.declared.Side.{Side}
use Rattle.connectors.specs.declared.Side.TheVariants.{Camera, External}
use Rattle.connectors.specs.declared.Connectors.{Connectors}
use Rattle.connectors.specs.declared.Lines.{Lines}
use Rattle.connectors.specs.declared.StartedBoth.{StartedBoth}
use Rattle.connectors.specs.declared.ReceivedAt.{ReceivedAt}
use Rattle.connectors.specs.declared.SlottedAt.{SlottedAt}
use Rattle.connectors.specs.declared.HandedAt.{HandedAt}
use Rattle.connectors.specs.declared.FilledAt.{FilledAt}
use Rattle.connectors.specs.Connectors.{side_of, port_at, line_at, with_line, blank_lines, start_both, unstarted_both, receive_in, receive_at, slot_in, measure_in, fill_in}
use Rattle.connectors.proofs.Promises.{promised}
use Rattle.isolation.specs.Calls.{Both, held_at, is_side, is_at, Asked, asks, receive, slots_once, measure, fill, Call, restart, on, after_in, after, after_all, bytes_in, seen_at}
use Rattle.isolation.specs.Answers as answer
use Rattle.isolation.specs.Answers.{slots_filled}
use Rattle.isolation.specs.EachPort.{Unrestarted, measurement_at, FromRestart, both_with, Entries, EachPort, InOwnSlots, Demand3EachPort, TightEachPort}
use Rattle.isolation.proofs.Sees.{sees}

-- ---- an accepted restart is a start of each port

module _ (old : Both) (s : Settings) (camera external : Measurement) (e : (start_both old.connectors old.lines s camera external).verdict ≡ Ok tt) where
  abbrev h : Both
  h = after old (restart s camera external)

  new_port : (a : Side) → held_at h a ≡ record { port = started_port s (measurement_at a camera external); line = blank }
  new_port Camera =
      let n = promised.restart.camera_port old.connectors old.lines s camera external e in
      ap₂ (λ (p : Port) (l : Line). record { port = p; line = l }) n.0 n.1
  new_port External =
      let n = promised.restart.external_port old.connectors old.lines s camera external e in
      ap₂ (λ (p : Port) (l : Line). record { port = p; line = l }) n.0 n.1

  module _ (a : Side) where
    abbrev m : Measurement
    m = measurement_at a camera external

    abbrev p : Port
    p = port_at old.connectors a

    abbrev l : Line
    l = line_at old.lines a

    measured : (b : Side) → start_verdict s (measurement_at b camera external) ≡ Ok tt
    measured Camera = let k = (promised.restart.accepted old.connectors old.lines s camera external).0 e in good_settings s camera k.0 ∙ k.1
    measured External = let k = (promised.restart.accepted old.connectors old.lines s camera external).0 e in good_settings s external k.0 ∙ k.2

    pub starts : (start_of p l s m).verdict ≡ Ok tt
    starts = start_verdict_lem p l s m ∙ measured a

    pub new : held_at h a ≡ begun p l s m
    new =
        let n = leaves_new p l s m starts in
        new_port a ∙ sym (ap₂ (λ (q : Port) (x : Line). record { port = q; line = x }) n.0 n.1)

    pub there : (cs : List Call) → Unrestarted cs → held_at (after_all h cs) a ≡ one.after_all (begun p l s m) (seen_at a h cs)
    there cs u = (sees a h cs u).leaves ∙ ap (λ (x : Held). one.after_all x (seen_at a h cs)) new

pub from_start : (a : Side) (h : Both) → FromRestart h → FromStart (held_at h a)
from_start a h f = record {
  old = port_at f.old.connectors a;
  old_line = line_at f.old.lines a;
  settings = f.settings;
  measurement = measurement_at a f.camera f.external;
  accepted = starts f.old f.settings f.camera f.external f.accepted a;
  calls = seen_at a (after f.old (restart f.settings f.camera f.external)) f.calls;
  held = ap (λ (x : Both). held_at x a) f.held ∙ there f.old f.settings f.camera f.external f.accepted a f.calls f.unrestarted;
}

begins : (h : Both) (s : Settings) (camera external : Measurement) → (start_both h.connectors h.lines s camera external).verdict ≡ Ok tt →
    FromRestart (after h (restart s camera external))
unfolding after_all
begins h s camera external e = record {
  old = h;
  settings = s;
  camera = camera;
  external = external;
  accepted = e;
  calls = [];
  unrestarted = tt;
  held = refl;
}

one_more : (cs : List Call) (n : ℕ) (q : Asked) → Unrestarted cs → Unrestarted (cs ++ on n q ∷ [])
one_more [] n q u = tt
one_more (restart s camera external ∷ cs) n q u = u
one_more (on m r ∷ cs) n q u = one_more cs n q u

after_one_more : (h : Both) (cs : List Call) (c : Call) → after (after_all h cs) c ≡ after_all h (cs ++ c ∷ [])
unfolding after_all
after_one_more h [] c = refl
after_one_more h (d ∷ cs) c = after_one_more (after h d) cs c

goes_on : (h : Both) (n : ℕ) (q : Asked) → FromRestart h → FromRestart (after h (on n q))
goes_on h n q f = record {
  old = f.old;
  settings = f.settings;
  camera = f.camera;
  external = f.external;
  accepted = f.accepted;
  calls = f.calls ++ on n q ∷ [];
  unrestarted = one_more f.calls n q f.unrestarted;
  held = ap (λ (x : Both). after x (on n q)) f.held ∙ after_one_more _ f.calls (on n q);
}

no_restart : (cs : List Call) → Unrestarted cs → (s : Settings) (camera external : Measurement) → restart s camera external ∈ cs → ⊥
no_restart [] u s camera external m = m
no_restart (restart s c e ∷ cs) u _ _ _ m = u
no_restart (on n q ∷ cs) u s camera external (inl e) = never (cc)
no_restart (on n q ∷ cs) u s camera external (inr m) = no_restart cs u s camera external m

none_restarts : (cs : List Call) → ((s : Settings) (camera external : Measurement) → restart s camera external ∈ cs → ⊥) → Unrestarted cs
none_restarts [] f = tt
none_restarts (restart s c e ∷ cs) f = f s c e (inl refl)
none_restarts (on n q ∷ cs) f = none_restarts cs (λ s camera external m. f s camera external (inr m))

pub each_port : EachPort
each_port = record {
  unrestarted = λ cs. (no_restart cs, none_restarts cs);
  begins = begins;
  goes_on = goes_on;
  states = λ a h cs u. (sees a h cs u).leaves;
  sends = λ a h cs u. (sees a h cs u).sends;
  slots = λ a h cs u. (sees a h cs u).runs;
  takes = λ a h cs u. (sees a h cs u).takes;
  acts = λ a h cs u. (sees a h cs u).acts;
  from_start = from_start;
  runs = λ a old s camera external cs e u.
      let h = after old (restart s camera external) in
      let m = measurement_at a camera external in
      ap view_of (there old s camera external e a cs u)
      ∙ of_the_port.states (port_at old.connectors a) (line_at old.lines a) s m (seen_at a h cs) (starts old s camera external e a)
      ∙ ap (λ (x : Held). run (start lens (started_port s m).source) (events_all x (seen_at a h cs))) (sym (new old s camera external e a));
  run_sends = λ a old s camera external cs e u.
      let h = after old (restart s camera external) in
      let m = measurement_at a camera external in
      (sees a h cs u).sends
      ∙ ap (λ (x : Held). one.bytes_all x (seen_at a h cs)) (new old s camera external e a)
      ∙ of_the_port.sends (port_at old.connectors a) (line_at old.lines a) s m (seen_at a h cs) (starts old s camera external e a)
      ∙ ap (λ (x : Held). sent (start lens (started_port s m).source) (events_all x (seen_at a h cs))) (sym (new old s camera external e a));
}

-- ---- demand 3

-- what is asked of a port leaves there what the base's call does
own_after : (a : Side) (h : Both) (q : Asked) → held_at (after_in h (Some a) q) a ≡ one.after (held_at h a) (asks q)
own_after Camera h q = refl
own_after External h q = refl

pub asked_after : (a : Side) (h : Both) (n : ℕ) (q : Asked) → side_of n ≡ Some a → held_at (after h (on n q)) a ≡ one.after (held_at h a) (asks q)
asked_after a h n q e = ap (λ (m : Option Side). held_at (after_in h m q) a) e ∙ own_after a h q

-- a received byte is answered as the base's port answers it
own_verdict : (a : Side) (h : Both) (n b : ℕ) → side_of n ≡ Some a → (receive_at h.connectors n (line_at h.lines a) b).verdict ≡ Ok tt →
    (receive_of (port_at h.connectors a) (line_at h.lines a) b).verdict ≡ Ok tt
own_verdict a h n b e d = sym (promised.as_the_port.receive h.connectors n a (line_at h.lines a) b e).0 ∙ d

pub in_own_slots : Demand3EachPort
in_own_slots a = record {
  promised = λ old s camera external e.
      of_the_port.demand3 (port_at old.connectors a) (line_at old.lines a) s (measurement_at a camera external) (starts old s camera external e a);
  in_order = λ h cs f u.
      ap (λ (x : List Line). waits_in (held_at h a) ++ x) (sees a h cs u).takes
      ∙ in_calls.in_order (held_at h a) (seen_at a h cs) (from_start a h f)
      ∙ ap₂ (λ (x : List Line) (y : Held). x ++ waits_in y) (sym (sees a h cs u).acts) (sym (sees a h cs u).leaves);
  acted_in_time = λ h n b cs f u e t d z.
      let k = after h (on n (receive b)) in
      let l = line_at h.lines a in
      let ds = seen_at a k cs in
      subst (λ (x : Held). 156 ≤ slots_run x ds → Acted 156 233 x l (by_slots x ds)) (sym (asked_after a h n (receive b) e))
      (in_calls.acted_in_time (held_at h a) b ds (from_start a h f) t (own_verdict a h n b e d))
      (subst (λ (j : ℕ). 156 ≤ j) (sees a k cs u).runs z);
  acted_first = λ h n b cs f u e t d z.
      let k = after h (on n (receive b)) in
      let l = line_at h.lines a in
      let ds = seen_at a k cs in
      let g =
      subst (λ (x : Held). 156 ≤ slots_run x ds → (more : List Line) × (acted_all x ds ≡ l ∷ more)) (sym (asked_after a h n (receive b) e))
      (in_calls.acted_first (held_at h a) b ds (from_start a h f) t (own_verdict a h n b e d))
      (subst (λ (j : ℕ). 156 ≤ j) (sees a k cs u).runs z) in
      (g.0, (sees a k cs u).acts ∙ g.1);
  record_in_time = λ h cs f u w o z.
      in_calls.record_in_time (held_at h a) (seen_at a h cs) (from_start a h f) w o (subst (λ (j : ℕ). 79 ≤ j) (sees a h cs u).runs z);
  whole_messages = λ old s camera external cs e u.
      let h = after old (restart s camera external) in
      let m = measurement_at a camera external in
      subst (λ (x : Held). WholeMessages x (seen_at a h cs)) (sym (new old s camera external e a))
      (in_calls.whole_messages (port_at old.connectors a) (line_at old.lines a) s m (seen_at a h cs) (starts old s camera external e a));
}

-- ---- the bench lens at both ports

bench_accepted : (h : Both) → (start_both h.connectors h.lines bench.settings bench.measurement bench.measurement).verdict ≡ Ok tt
bench_accepted h =
    let t = valid_told bench tight.good.valid in
    (promised.restart.accepted h.connectors h.lines bench.settings bench.measurement bench.measurement).1 (t.settings, t.measurement, t.measurement)

bench_left : (a : Side) (h : Both) → (held_at (after h (restart bench.settings bench.measurement bench.measurement)) a).port.source ≡ bench
bench_left a h =
    ap (λ (x : Held). x.port.source) (new h bench.settings bench.measurement bench.measurement (bench_accepted h) a) ∙ own a
  where
    own : (b : Side) → (start_of (port_at h.connectors b) (line_at h.lines b) bench.settings (measurement_at b bench.measurement bench.measurement)).port.source ≡ bench
    own Camera = tight_start.leaves (port_at h.connectors Camera) h.lines.camera
    own External = tight_start.leaves (port_at h.connectors External) h.lines.external

-- what would be promised of it
of_bench : (a : Side) {m n k : ℕ} → InOwnSlots a m n k → Promised lens m n k bench
unfolding unit_of
of_bench Camera p =
    let h : Both = record { connectors = unstarted_both; lines = blank_lines } in
    p.promised h bench.settings bench.measurement bench.measurement (bench_accepted h)
of_bench External p =
    let h : Both = record { connectors = unstarted_both; lines = blank_lines } in
    p.promised h bench.settings bench.measurement bench.measurement (bench_accepted h)

pub tight_each_port : TightEachPort
tight_each_port = record {
  accepted = bench_accepted;
  leaves = bench_left;
  act_tight = λ a n k p. tight.act_tight n k (of_bench a p);
  reply_tight = λ a n k p. tight.reply_tight n k (of_bench a p);
  record_tight = λ a n k p. tight.record_tight n k (of_bench a p);
}

-- ---- the calls are the entries

both_is : {c c' : Connectors} {l l' : Lines} → c ≡ c' → l ≡ l' → both_with c l ≡ both_with c' l'
both_is e f = ap₂ both_with e f

-- what an entry on a name hands back is what the call leaves
received_is : (h : Both) (a : Side) (b : ℕ) (m : Option Side) → m ≡ Some a →
    let r = receive_in h.connectors m (line_at h.lines a) b in
    both_with r.connectors (with_line h.lines a r.line) ≡ after_in h m (receive b)
unfolding receive_in
received_is h a b m e =
    subst (λ (x : Option Side). let r = receive_in h.connectors x (line_at h.lines a) b in both_with r.connectors (with_line h.lines a r.line) ≡ after_in h x (receive b)) (sym e) refl

slot_is : (h : Both) (m : Option Side) → both_with (slot_in h.connectors m).connectors h.lines ≡ after_in h m slots_once
unfolding slot_in
slot_is h (Some Camera) = refl
slot_is h (Some External) = refl
slot_is h None = refl

measured_is : (h : Both) (x : Measurement) (m : Option Side) → both_with (measure_in h.connectors m x).connectors h.lines ≡ after_in h m (measure x)
unfolding measure_in
measured_is h x (Some Camera) = refl
measured_is h x (Some External) = refl
measured_is h x None = refl

filled_is : (h : Both) (n : ℕ) (m : Option Side) → both_with (fill_in h.connectors m n).connectors h.lines ≡ after_in h m (fill n)
unfolding fill_in
filled_is h n (Some Camera) = refl
filled_is h n (Some External) = refl
filled_is h n None = refl

own_side : (a : Side) → is_side a a ≡ true
own_side Camera = refl
own_side External = refl

own_bytes : (a : Side) (h : Both) (n : ℕ) (q : Asked) → side_of n ≡ Some a → one.bytes (held_at h a) (asks q) ≡ bytes_in a h (on n q)
own_bytes a h n q e = sym (ap (λ (m : Option Side). cond (is_at a m) (one.bytes (held_at h a) (asks q)) []) e ∙ cond_yes _ _ (own_side a))

pub entries : Entries
entries = record {
  restarts = λ h s camera external r e. ap (λ (x : StartedBoth). both_with x.connectors x.lines) e;
  receives = λ h a n b r s e. ap (λ (x : ReceivedAt). both_with x.connectors (with_line h.lines a x.line)) e ∙ received_is h a b (side_of n) s;
  slots = λ h n r e. ap (λ (x : SlottedAt). both_with x.connectors h.lines) e ∙ slot_is h (side_of n);
  slot_sends = λ h a n r s e.
      ap (λ (x : SlottedAt). bytes_of x.sent) e ∙ ap bytes_of (promised.as_the_port.slot h.connectors n a s).0 ∙ own_bytes a h n slots_once s;
  measures = λ h n m r e. ap (λ (x : HandedAt). both_with x.connectors h.lines) e ∙ measured_is h m (side_of n);
  fills = λ h n out r left e. ap (λ (x : FilledAt). both_with x.connectors h.lines) e.answers ∙ filled_is h (length out) (side_of n);
  fill_sends = λ h a n out r left f s e.
      let p = port_at h.connectors a in
      let x = fill_of p (length out) in
      ap₂ (λ (c : ℕ) (l : List ℕ). take c l) (ap (λ (y : FilledAt). y.count) e.answers ∙ (promised.as_the_port.fill h.connectors n a (length out) s).1)
      (e.leaves ∙ promised.as_the_port.fill_bytes h.connectors n a out s)
      ∙ ((port-walk.entries).fill (held_at h a) out x (fill_leaves p out) (from_start a h f) (record { answers = refl; leaves = refl })).1
      ∙ own_bytes a h n (fill (length out)) s;
  restart_answers = λ h a s camera external r e. ap (λ (x : StartedBoth). answer.started x.verdict (held_at (both_with x.connectors x.lines) a)) e;
  receive_answers = λ h a n b r s e.
      let k = promised.as_the_port.receive h.connectors n a (line_at h.lines a) b s in
      ap (λ (x : ReceivedAt). answer.received (record { verdict = x.verdict; port = port_at x.connectors a; line = x.line })) e
      ∙ (λ i. answer.received (record { verdict = k.0 i; port = k.2.port i; line = k.1 i }));
  slot_answers = λ h a n r s e.
      let k = promised.as_the_port.slot h.connectors n a s in
      ap (λ (x : SlottedAt). answer.slotted (record { sent = x.sent; port = port_at x.connectors a })) e
      ∙ (λ i. answer.slotted (record { sent = k.0 i; port = k.1.port i }));
  measure_answers = λ h a n m r s e.
      let k = promised.as_the_port.measure h.connectors n a m s in
      ap (λ (x : HandedAt). answer.measured (record { verdict = x.verdict; port = port_at x.connectors a })) e
      ∙ (λ i. answer.measured (record { verdict = k.0 i; port = k.1.port i }));
  fill_answers = λ h a n out r left s e.
      let k = promised.as_the_port.fill h.connectors n a (length out) s in
      let xs = slots_filled (length out) (port_at h.connectors a) in
      ap (λ (x : FilledAt). answer.filled (record { verdict = x.verdict; count = x.count; port = port_at x.connectors a }) xs) e.answers
      ∙ (λ i. answer.filled (record { verdict = k.0 i; count = k.1 i; port = k.2.port i }) xs);
}
