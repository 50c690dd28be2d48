-- Every sequence of calls is a run of the machine: call by call, a fill by its slots. Assumes nothing.
use Prim.Native.Nat.{ℕ, zero, suc}
use mathlib.Core.Bool.{Bool, true, ◌&&◌}
use mathlib.Core.List.{List, [], ◌∷◌, ◌++◌, append-nil}
use mathlib.Core.Option.{none, some}
use mathlib.Core.Path.{◌≡◌, refl, sym, ap, ap₂, subst, ◌∙◌}
use lib.ListN.{length, replicate}
use Rattle.std.specs.Prelude.{Option, None, Some, is_some, Ok, Err}
use Rattle.laws.proofs.OverLaws.{length_over}
use Rattle.laws.proofs.Tests.{cond_yes, by}
use Rattle.refusal.specs.Answer.{Answer}
use Rattle.machine.specs.Machine.{State, port, Out, on_byte, on_return, on_other, on_given, Events, received, slot, given, shows, run, sent, sent_in, start}
use Rattle.machine.specs.Promised.{Promised}
use Rattle.machine.proofs.Use.{run_append, seen_append}
use Rattle.fixed.specs.declared.Settings.{Settings}
use Rattle.units.specs.Measurement.{measurement_verdict}
use Rattle.units.specs.declared.Measurement.{Measurement}
use Rattle.line.specs.declared.Line.{Line}
use Rattle.line.specs.Line.{ends, valid_line}
use Rattle.line.proofs.Laws.{blank_valid}
use Rattle.state.specs.declared.Source.{Source}
use Rattle.state.specs.State.{message_length, zeros, valid_message}
use Rattle.state.proofs.Laws.{zeros_long}
use Rattle.rules.specs.Does.{is_on}
use Rattle.rules.specs.Lens.{Turn, Given, measurement, elsewhere, lens, Good, greeting}
use Rattle.rules.specs.Promise.{act_by, reply_by, record_by}
use Rattle.rules.proofs.Demand3.{demand3}
use Rattle.rules.proofs.Kept.{turned_same}
use Rattle.port.specs.declared.Port.{Port}
use Rattle.port.specs.declared.Handed.{Handed}
use Rattle.port.specs.declared.Received.{Received}
use Rattle.port.specs.Port.{valid_waiting, valid_port, slot_of, taken_of, receive_of, measured_port, measure_of, started_port, start_of}
use Rattle.port.proofs.Valid.{source_valid}
use Rattle.port.proofs.Promises.{by_handed, leaves_new, kept_valid}
use Rattle.fill.specs.Fill.{SlotRun, then_run, run_of, fill_of}
use Rattle.fill.specs.declared.Filled.{Filled}
use Rattle.walk.specs.View.{bytes_of}
use Rattle.walk.specs.Walk.{Sound, turned_port}
use Rattle.walk.specs.Calls.{Call, receive, slots_once, measure, fill, turn, Held, view_of, after, bytes, ran_by, ran, events_of, after_all, bytes_all, events_all, begun, FromStart, OfThePort}
use Rattle.walk.proofs.Walk.{walks}

-- what some calls and the machine's events for them come to
pub record Follows (h h' : Held) (bs : List ℕ) (es : Events lens) : Type 0 where
  pub state : view_of h' ≡ run (view_of h) es
  pub sends : bs ≡ sent (view_of h) es
  pub sound : Sound h'.port
  pub line : valid_line h'.line ≡ true

-- one after the other
then : {h x y : Held} {bs cs : List ℕ} {es fs : Events lens} → Follows h x bs es → Follows x y cs fs → Follows h y (bs ++ cs) (es ++ fs)
then {h} {es = es} {fs} f g = record {
  state = g.state ∙ ap (λ (s : State lens). run s fs) f.state ∙ sym (run_append (view_of h) es fs);
  sends = ap₂ (λ (x y : List ℕ). x ++ y) f.sends (g.sends ∙ ap (λ (s : State lens). sent s fs) f.state) ∙ sym (seen_append sent_in (view_of h) es fs);
  sound = g.sound;
  line = g.line;
}

-- ---- a fill is the slots it runs

slot_follows : (h : Held) → Sound h.port → valid_line h.line ≡ true → Follows h (after h slots_once) (bytes h slots_once) (slot ∷ [])
slot_follows h s l = record {
  state = walks.slot_walks h.port h.line s;
  sends = walks.slot_sends h.port h.line s ∙ sym (append-nil _);
  sound = walks.slot_sound h.port s;
  line = l;
}

slots_follow : (k : ℕ) (h : Held) → Sound h.port → valid_line h.line ≡ true →
    Follows h (after_all h (replicate k slots_once)) (bytes_all h (replicate k slots_once)) (replicate k slot)
unfolding after_all bytes_all
slots_follow zero h s l = record { state = refl; sends = refl; sound = s; line = l }
slots_follow (suc k) h s l =
    let f = slot_follows h s l in
    then f (slots_follow k (after h slots_once) f.sound f.line)

-- a run of k slots from h leaves this port and these bytes
pub record Runs (h : Held) (k : ℕ) (r : SlotRun) : Type 0 where
  pub state : after_all h (replicate k slots_once) ≡ record { port = r.port; line = h.line }
  pub sends : bytes_all h (replicate k slots_once) ≡ r.bytes

-- after a slot that sent t: the run goes on, or it ends there
goes_on : (h : Held) (t : Answer (Option ℕ)) (k : ℕ) (r : SlotRun) → (slot_of h.port).sent ≡ t → Runs (after h slots_once) k r → Runs h (ran_by t k) (then_run t (slot_of h.port).port r)
unfolding after_all bytes_all
goes_on h (Ok (Some b)) k r e f = record { state = f.state; sends = ap₂ (λ (x y : List ℕ). x ++ y) (ap bytes_of e) f.sends }
goes_on h (Ok None) k r e f = record { state = refl; sends = ap (λ (x : Answer (Option ℕ)). bytes_of x ++ []) e }
goes_on h (Err z) k r e f = record { state = refl; sends = ap (λ (x : Answer (Option ℕ)). bytes_of x ++ []) e }

runs : (n : ℕ) (h : Held) → Runs h (ran n h.port) (run_of n h.port)
unfolding run_of ran after_all bytes_all
runs zero h = record { state = refl; sends = refl }
runs (suc n) h = goes_on h (slot_of h.port).sent _ _ refl (runs n (after h slots_once))

pub fill_is : (h : Held) (n : ℕ) → valid_port h.port ≡ true → Runs h (ran n h.port) (record { port = (fill_of h.port n).port; bytes = bytes h (fill n) })
unfolding fill_of
fill_is h n v =
    let r = runs n h in
    record { state = r.state ∙ ap (λ (x : Filled). record { port = x.port; line = h.line }) (sym (cond_yes _ _ v)); sends = r.sends }

-- ---- each call

quiet_byte : (x : State lens) (b : ℕ) → sent_in (shows x (received b)) ≡ []
unfolding on_byte on_return on_other
quiet_byte (port m none u k l) b = by (λ (y : State lens × Out lens). sent_in y.1 ≡ []) (ends l b) _ _ (λ y. refl) (λ n. refl)
quiet_byte (port m (some c) u k l) b = by (λ (y : State lens × Out lens). sent_in y.1 ≡ []) (ends l b) _ _ (λ y. refl) (λ n. refl)

quiet_given : (x : State lens) (g : Given) → sent_in (shows x (given g)) ≡ []
unfolding on_given
quiet_given (port s w u k l) g = refl

-- a received byte and a measurement leave the buffer alone
received_long : (p : Port) (l : Line) (b : ℕ) → length p.message.bytes ≡ message_length → length (receive_of p l b).port.message.bytes ≡ message_length
unfolding receive_of taken_of
received_long p l b h =
    let P : Received → Type 0 = λ x. length x.port.message.bytes ≡ message_length in
    by P (valid_port p && valid_line l) _ _
    (λ v. by P (ends l b) _ _ (λ y. by P (is_some p.waiting) _ _ (λ w. h) (λ w. h)) (λ n. h))
    (λ n. h)

measured_long : (p : Port) (m : Measurement) → length p.message.bytes ≡ message_length → length (measure_of p m).port.message.bytes ≡ message_length
unfolding measure_of
measured_long p m h =
    let P : Handed → Type 0 = λ x. length x.port.message.bytes ≡ message_length in
    by P (valid_port p) _ _ (λ v. by_handed P (measurement_verdict m) (measured_port p m) p (λ d. h) (λ r. h)) (λ n. h)

-- a turn elsewhere keeps a valid port valid
pub turned_valid : (p : Port) (t : Turn) → valid_port p ≡ true → valid_port (turned_port t p) ≡ true
unfolding valid_port
turned_valid p t v = ap (λ (x : Bool). x && (valid_message p.message && valid_waiting p.waiting)) (turned_same t p.source) ∙ v

pub follows : (h : Held) (c : Call) → Sound h.port → valid_line h.line ≡ true → Follows h (after h c) (bytes h c) (events_of h c)
follows h (receive b) s l = record {
  state = walks.receive_walks h.port h.line b s l;
  sends = sym (ap (λ (x : List ℕ). x ++ []) (quiet_byte (view_of h) b));
  sound = record { valid = kept_valid.receive h.port h.line b s.valid; long = received_long h.port h.line b s.long };
  line = kept_valid.line h.port h.line b l;
}
follows h slots_once s l = slot_follows h s l
follows h (measure m) s l = record {
  state = walks.measure_walks h.port h.line m s;
  sends = sym (ap (λ (x : List ℕ). x ++ []) (quiet_given (view_of h) (measurement m)));
  sound = record { valid = kept_valid.measure h.port m s.valid; long = measured_long h.port m s.long };
  line = l;
}
follows h (fill n) s l =
    let r = fill_is h n s.valid in
    let F : Held → List ℕ → Type 0 = λ x bs. Follows h x bs (events_of h (fill n)) in
    subst (λ x. F x (bytes h (fill n))) r.state (subst (F _) r.sends (slots_follow (ran n h.port) h s l))
follows h (turn t) s l = record {
  state = walks.turn_walks h.port h.line t;
  sends = sym (ap (λ (x : List ℕ). x ++ []) (quiet_given (view_of h) (elsewhere t)));
  sound = record { valid = turned_valid h.port t s.valid; long = s.long };
  line = l;
}

-- ---- all calls

pub all_follow : (h : Held) (cs : List Call) → Sound h.port → valid_line h.line ≡ true → Follows h (after_all h cs) (bytes_all h cs) (events_all h cs)
unfolding after_all bytes_all events_all
all_follow h [] s l = record { state = refl; sends = refl; sound = s; line = l }
all_follow h (c ∷ cs) s l =
    let f = follows h c s l in
    then f (all_follow (after h c) cs f.sound f.line)

-- ---- from a start

start_sound : (old : Port) (l : Line) (s : Settings) (m : Measurement) → (start_of old l s m).verdict ≡ Ok tt → Sound (start_of old l s m).port
start_sound old l s m e =
    let z = zeros_long in
    record {
      valid = kept_valid.start old l s m e;
      long = ap (λ (p : Port). length p.message.bytes) (leaves_new old l s m e).0 ∙ (length_over zeros greeting 0 ∙ z);
    }

start_line : (old : Port) (l : Line) (s : Settings) (m : Measurement) → (start_of old l s m).verdict ≡ Ok tt → valid_line (start_of old l s m).line ≡ true
start_line old l s m e = subst (λ (x : Line). valid_line x ≡ true) (sym (leaves_new old l s m e).1) blank_valid

started_good : (old : Port) (l : Line) (s : Settings) (m : Measurement) → (start_of old l s m).verdict ≡ Ok tt → Good (started_port s m).source
unfolding is_on
started_good old l s m e = record {
  valid = source_valid (started_port s m) (subst (λ (p : Port). valid_port p ≡ true) (leaves_new old l s m e).0 (kept_valid.start old l s m e));
  ready_off = λ r. refl;
}

started_follows : (old : Port) (l : Line) (s : Settings) (m : Measurement) (cs : List Call) → (start_of old l s m).verdict ≡ Ok tt →
    let h = begun old l s m in
    Follows h (after_all h cs) (bytes_all h cs) (events_all h cs)
started_follows old l s m cs e = all_follow (begun old l s m) cs (start_sound old l s m e) (start_line old l s m e)

pub of_the_port : OfThePort
of_the_port = record {
  states = λ old l s m cs e. (started_follows old l s m cs e).state ∙ ap (λ (x : State lens). run x (events_all (begun old l s m) cs)) (walks.start_walks old l s m e);
  sends = λ old l s m cs e. (started_follows old l s m cs e).sends ∙ ap (λ (x : State lens). sent x (events_all (begun old l s m) cs)) (walks.start_walks old l s m e);
  demand3 = λ old l s m e. demand3 (started_port s m).source (started_good old l s m e);
}

-- what the driver holds from a start, as the machine sees it, and what is promised of it
pub record Reached (h : Held) : Type 0 where
  pub source : Source
  pub before : Events lens
  pub state : view_of h ≡ run (start lens source) before
  pub sound : Sound h.port
  pub line : valid_line h.line ≡ true
  pub promised : Promised lens act_by reply_by record_by source

pub reached : {h : Held} → FromStart h → Reached h
reached f =
    let m = f.measurement in
    let g = started_follows f.old f.old_line f.settings m f.calls f.accepted in
    subst Reached (sym f.held)
    (record {
      source = (started_port f.settings m).source;
      before = events_all (begun f.old f.old_line f.settings m) f.calls;
      state = of_the_port.states f.old f.old_line f.settings m f.calls f.accepted;
      sound = g.sound;
      line = g.line;
      promised = of_the_port.demand3 f.old f.old_line f.settings m f.accepted;
    })
