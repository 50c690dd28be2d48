-- What a call makes of a port's settings: they stay, or the line that waited was acted on and turned the letter. Assumes nothing.
use Prim.Native.Nat.{ℕ, zero, suc, ◌+◌}
use mathlib.Core.Bool.{◌&&◌, cond}
use mathlib.Core.List.{List, [], ◌∷◌}
use mathlib.Core.Path.{◌≡◌, refl, sym, ap, ap₂, ◌∙◌}
use lib.Dec.{ltb, eqb}
use Rattle.std.specs.Prelude.{Option, None, Some, is_some, Ok, Err}
use Rattle.laws.proofs.Tests.{told, by, never}
use Rattle.refusal.specs.Answer.{Answer}
use Rattle.machine.specs.Machine.{listed}
use Rattle.fixed.specs.declared.Settings.{Settings}
use Rattle.units.specs.Measurement.{measurement_verdict}
use Rattle.units.specs.declared.Measurement.{Measurement}
use Rattle.line.specs.declared.Line.{Line}
use Rattle.line.specs.Line.{ends, valid_line}
use Rattle.state.specs.declared.Last.{Last}
use Rattle.state.specs.declared.Source.{Source}
use Rattle.state.specs.declared.State.{State}
use Rattle.rules.specs.Does.{does, counts, continuous}
use Rattle.port.specs.declared.Handed.{Handed}
use Rattle.port.specs.declared.Port.{Port}
use Rattle.port.specs.declared.Received.{Received}
use Rattle.port.specs.declared.Slotted.{Slotted}
use Rattle.port.specs.Port.{valid_port, moved_if, send_from, begun_with, begins_record, rest_of, reply_last, freed, answers, act_of, act_or_rest, is_reply, choose_of, slot_of, taken_port, taken_of, receive_of, measured_port, measure_of}
use Rattle.port.proofs.Promises.{by_handed}
use Rattle.fill.specs.Fill.{SlotRun, then_run, run_of, fill_of}
use Rattle.fill.specs.declared.Filled.{Filled}
use Rattle.walk.specs.View.{waits_of}
use Rattle.walk.specs.Calls.{Held}
use Rattle.walk.specs.Calls as one
use Rattle.walk.specs.InCalls.{waits_in}
use Rattle.isolation.specs.Turns.{turns_in, turned_by}
use Rattle.isolation.specs.Calls.{Asked, receive, slots_once, measure, fill, asks, turn_on, turn_by}
use Rattle.isolation.proofs.Turns.{settings_after}

-- ---- a slot

-- the waiting place, the settings and the state are as they were in r
record Stays (r q : Port) : Type 0 where
  waiting : q.waiting ≡ r.waiting
  settings : q.source.settings ≡ r.source.settings
  state : q.source.modes.state ≡ r.source.modes.state

send_stays : (r : Port) (at : ℕ) → Stays r (send_from r at).port
unfolding send_from moved_if
send_stays r at =
    let e = eqb (at + 1) r.message.len in
    told e (λ y. rw y (record { waiting = refl; settings = refl; state = refl })) (λ n. rw n (record { waiting = refl; settings = refl; state = refl }))

record_stays : (p : Port) → Stays p (begins_record p).port
unfolding begins_record begun_with
record_stays p = let s = send_stays _ 0 in record { waiting = s.waiting; settings = s.settings; state = s.state }

rest_stays : (p : Port) → Stays p (rest_of p).port
unfolding rest_of
rest_stays p =
    by (λ (x : Slotted). Stays p x.port) (continuous p.source) _ _ (λ y. record_stays p) (λ n. record { waiting = refl; settings = refl; state = refl })

answers_stay : (p : Port) (s : Source) (xs : List ℕ) (k : Last) → Stays (freed p s) (answers p s xs k).port
unfolding answers begun_with
answers_stay p s [] k = rest_stays (freed p s)
answers_stay p s (b ∷ bs) k = let t = send_stays _ 0 in record { waiting = t.waiting; settings = t.settings; state = t.state }

-- what slots make of a port: all of that stays, or the line that waited was acted on
data Went (p q : Port) : Type 0 where
  stayed : Stays p q → Went p q
  acted : (l : Line) → p.waiting ≡ Some l → q.waiting ≡ None →
      q.source.settings ≡ turned_by (turns_in p.source.modes.state l) p.source.settings → Went p q

act_went : (p : Port) (l : Line) → p.waiting ≡ Some l → Went p (act_of p l).port
unfolding act_of
act_went p l w =
    let d = does p.source l in
    let s = answers_stay p d.source d.reply (reply_last (counts p.source l)) in
    acted l w s.waiting (s.settings ∙ settings_after p.source l)

later_went : (p : Port) (w : Option Line) → p.waiting ≡ w → Went p (act_or_rest p w).port
later_went p (Some l) e = act_went p l e
later_went p None e = stayed (rest_stays p)

choose_went : (p : Port) → Went p (choose_of p).port
unfolding choose_of
choose_went p =
    let P : Slotted → Type 0 = λ x. Went p x.port in
    by P (continuous p.source && is_reply p.last) _ _ (λ y. stayed (record_stays p))
    (λ n. later_went p p.waiting refl)

slot_went : (p : Port) → Went p (slot_of p).port
unfolding slot_of
slot_went p =
    let P : Slotted → Type 0 = λ x. Went p x.port in
    by P (valid_port p) _ _ (λ v. by P (ltb p.message.at p.message.len) _ _ (λ y. stayed (send_stays p _)) (λ n. choose_went p))
    (λ n. stayed (record { waiting = refl; settings = refl; state = refl }))

-- ---- the slots of a fill

then_went : {p q r : Port} → Went p q → Went q r → Went p r
then_went (stayed s) (stayed t) = stayed (record { waiting = t.waiting ∙ s.waiting; settings = t.settings ∙ s.settings; state = t.state ∙ s.state })
then_went (stayed s) (acted l w f e) = acted l (sym s.waiting ∙ w) f (e ∙ ap₂ turned_by (ap (λ (k : State). turns_in k l) s.state) s.settings)
then_went (acted l w f e) (stayed t) = acted l w (t.waiting ∙ f) (t.settings ∙ e)
then_went (acted l w f e) (acted k v g d) = let h : None ≡ Some k = sym f ∙ v in never cc

-- after a slot that sent t: the run goes on, or it ends there
goes_on : {p q : Port} (t : Answer (Option ℕ)) (r : SlotRun) → Went p q → Went q r.port → Went p (then_run t q r).port
goes_on (Ok (Some b)) r w v = then_went w v
goes_on (Ok None) r w v = w
goes_on (Err x) r w v = w

run_went : (n : ℕ) (p : Port) → Went p (run_of n p).port
unfolding run_of
run_went zero p = stayed (record { waiting = refl; settings = refl; state = refl })
run_went (suc n) p = goes_on (slot_of p).sent (run_of n (slot_of p).port) (slot_went p) (run_went n (slot_of p).port)

fill_went : (n : ℕ) (p : Port) → Went p (fill_of p n).port
unfolding fill_of
fill_went n p =
    by (λ (x : Filled). Went p x.port) (valid_port p) _ _ (λ v. run_went n p) (λ v. stayed (record { waiting = refl; settings = refl; state = refl }))

-- ---- what a call acts on, and the settings after it

-- a place that holds as much as before was not acted on
pub none_left : (w : Option Line) → cond (is_some w) [] (listed (waits_of w)) ≡ []
none_left (Some l) = refl
none_left None = refl

module _ (h : Held) where
  abbrev p : Port
  p = h.port

  abbrev turns : List Line → Settings
  turns ls = turned_by (turn_on h ls) p.source.settings

  -- the settings after a call that leaves q and acts on the line that left the waiting place
  abbrev Turns : Port → Type 0
  Turns q = q.source.settings ≡ turns (cond (is_some q.waiting) [] (waits_in h))

  unacted : (q : Port) → q.source.settings ≡ p.source.settings → cond (is_some q.waiting) [] (waits_in h) ≡ [] → Turns q
  unacted q e n = e ∙ sym (ap turns n)

  still : (q : Port) → q.source.settings ≡ p.source.settings → q.waiting ≡ p.waiting → Turns q
  still q e w = unacted q e (ap (λ (x : Option Line). cond (is_some x) [] (waits_in h)) w ∙ none_left p.waiting)

  went_turns : (q : Port) → Went p q → Turns q
  went_turns q (stayed s) = still q s.settings s.waiting
  went_turns q (acted l w f e) = e ∙ sym (ap turns (ap₂ (λ (x y : Option Line). cond (is_some x) [] (listed (waits_of y))) f w))

  receive_turns : (b : ℕ) → Turns (receive_of p h.line b).port
  unfolding receive_of taken_of
  receive_turns b =
      let P : Received → Type 0 = λ x. Turns x.port in
      by P (valid_port p && valid_line h.line) _ _
      (λ v. by P (ends h.line b) _ _ (λ y. by P (is_some p.waiting) _ _ (λ w. still p refl refl) (λ w. unacted (taken_port p h.line) refl refl)) (λ n. still p refl refl))
      (λ n. still p refl refl)

  measure_turns : (m : Measurement) → Turns (measure_of p m).port
  unfolding measure_of
  measure_turns m =
      let P : Handed → Type 0 = λ x. Turns x.port in
      by P (valid_port p) _ _ (λ v. by_handed P (measurement_verdict m) (measured_port p m) p (λ d. still (measured_port p m) refl refl) (λ r. still p refl refl)) (λ n. still p refl refl)

  -- the settings that a call leaves: turned, where the line that it acted on turns them
  pub call_turns : (q : Asked) → (one.after h (asks q)).port.source.settings ≡ turned_by (turn_by h q) p.source.settings
  call_turns (receive b) = receive_turns b
  call_turns slots_once = went_turns _ (slot_went p)
  call_turns (measure m) = measure_turns m
  call_turns (fill n) = went_turns _ (fill_went n p)
