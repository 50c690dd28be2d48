-- What each event prints and leaves: by the entry of the port that it is, and by the slots that a run has left. Assumes nothing.
use Prim.Native.Nat.{ℕ, zero, suc, ◌+◌, ◌-◌, ◌≤◌}
use mathlib.Core.Bool.{Bool, true, false, ◌||◌, or-true}
use mathlib.Core.List.{[]}
use mathlib.Core.Logic.{◌↔◌, ◌⊎◌, ◌≢◌, inl, inr, ⊎_elim}
use mathlib.Core.Path.{◌≡◌, refl, sym, ap, ◌∙◌}
use native.Mathlib.Omega.{arith}
use borrow.Author.Tests.{ltb-true, ltb-false, le-leb, leb-true}
use lib.Dec.{leb, ltb, eqb}
use lib.ListN.{length, length-append}
use Rattle.std.specs.Prelude.{Err, Ok}
use Rattle.laws.proofs.Tests.{cond_yes, cond_no, told, by, never, and_both}
use Rattle.refusal.specs.Answer.{Verdict}
use Rattle.refusal.specs.Refusal.{number_of}
use Rattle.refusal.specs.declared.Refusal.{Refusal}
use Rattle.refusal.specs.declared.Refusal.TheVariants as refusal
use Rattle.units.specs.Units.{is_unit}
use Rattle.units.specs.Measurement.{measurement_lowest, measurement_verdict}
use Rattle.units.specs.declared.Measurement.{Measurement}
use Rattle.line.specs.Line.{blank}
use Rattle.port.specs.declared.Port.{Port}
use Rattle.port.specs.Port.{valid_port, slot_of, receive_of, measure_of}
use Rattle.port.proofs.Promises.{refused_same, kept_valid}
use Rattle.port.proofs.Cases.{by_case, judged_measure}
use Rattle.capture.specs.declared.Event.{Event}
use Rattle.capture.specs.declared.Event.TheVariants.{Received, Slots, Measured, Other}
use Rattle.printed.specs.Printed.{slots_text, after_slots, numeral, labelled, refused_text, slots_line, verdict_text}
use Rattle.telling.specs.Telling.{last_slot, valid_run, is_over, slots_left, Telling, tells, tell_of}
use Rattle.telling.specs.Promises.{OfEvents}
use Rattle.telling.specs.declared.Run.{Run}
use Rattle.printed.proofs.Characters.{six_at_most}
use Rattle.printed.proofs.Laws.{length_slots}
use Rattle.telling.proofs.Laws.{slots_fit, Ours, ours, is_ours}

-- ---- over, or not

module _ (r : Run) (e : Event) where
  on : is_over r ≡ false → tell_of r e ≡ tells r e
  unfolding tell_of
  on o = cond_no _ _ o

  ended : is_over r ≡ true → tell_of r e ≡ record { text = []; run = r }
  unfolding tell_of
  ended o = cond_yes _ _ o

  -- what holds of a run that stays and prints nothing, and of what an event makes of one, holds of what it tells
  by_end : (P : Telling → Type 0) → P (record { text = []; run = r }) → P (tells r e) → P (tell_of r e)
  unfolding tell_of
  by_end P f g = by P (is_over r) _ _ (λ o. f) (λ o. g)

-- ---- received

received : (r : Run) (b : ℕ) → is_over r ≡ false → (receive_of r.port r.line b).verdict ≡ Ok tt → (tell_of r (Received b)).text ≡ []
unfolding tells
received r b o d = ap (λ (t : Telling). t.text) (on r (Received b) o) ∙ ap verdict_text d

-- of a run of ours, 7 is the only refusal
is_dropped : (r : Run) (b : ℕ) (x : Refusal) → valid_run r ≡ true → (receive_of r.port r.line b).verdict ≡ Err x → x ≡ refusal.Dropped
is_dropped r b x v e =
    let o = ours r v in
    ⊎_elim (λ c. never (cc (c.0, and_both o.port o.line))) (λ c. c.3) ((by_case.receive r.port r.line b x).0 e)

dropped : (r : Run) (b : ℕ) (x : Refusal) → is_over r ≡ false → valid_run r ≡ true → (receive_of r.port r.line b).verdict ≡ Err x →
    (x ≡ refusal.Dropped) ×
    ((tell_of r (Received b)).text ≡ refused_text refusal.Dropped) ×
    ((tell_of r (Received b)).run ≡ record { port = r.port; line = blank; slots = r.slots; stopped = r.stopped })
unfolding tells
dropped r b x o v e =
    let d = is_dropped r b x v e in
    let f : (receive_of r.port r.line b).verdict ≡ Err refusal.Dropped = e ∙ ap Err d in
    let p = refused_same.receive r.port r.line b x e in
    let l = refused_same.receive_7 r.port r.line b f in (
      d,
      ap (λ (t : Telling). t.text) (on r (Received b) o) ∙ ap verdict_text f,
      ap (λ (t : Telling). t.run) (on r (Received b) o) ∙ rw (p, l),
    )

-- ---- measured

measured : (r : Run) (m : Measurement) → is_over r ≡ false → (measure_of r.port m).verdict ≡ Ok tt → (tell_of r (Measured m)).text ≡ []
unfolding tells
measured r m o d = ap (λ (t : Telling). t.text) (on r (Measured m) o) ∙ ap verdict_text d

-- a measurement is refused with 1 only
only_1 : (m : Measurement) (x : Refusal) → measurement_verdict m ≡ Err x → number_of x ≡ 1
unfolding measurement_verdict
only_1 m x =
    by (λ (v : Verdict). v ≡ Err x → number_of x ≡ 1) (is_unit m.unit) _ _
    (λ y.
    by (λ (v : Verdict). v ≡ Err x → number_of x ≡ 1) (eqb (measurement_lowest m) 0) _ _
    (λ z e. never (cc))
    (λ z e. let k : x ≡ refusal.Field (measurement_lowest m) = cc in ap number_of k))
    (λ n e. let k : x ≡ refusal.Field 0 = cc in ap number_of k)

refused : (r : Run) (m : Measurement) (x : Refusal) → is_over r ≡ false → valid_run r ≡ true → (measure_of r.port m).verdict ≡ Err x →
    (number_of x ≡ 1) × ((tell_of r (Measured m)).text ≡ refused_text x) × ((tell_of r (Measured m)).run ≡ r)
unfolding tells
refused r m x o v e = (
  only_1 m x (sym (judged_measure r.port m (ours r v).port) ∙ e),
  ap (λ (t : Telling). t.text) (on r (Measured m) o) ∙ ap verdict_text e,
  ap (λ (t : Telling). t.run) (on r (Measured m) o) ∙ rw (refused_same.measure r.port m x e),
)

-- ---- other lines, and what stays

other : (r : Run) → is_over r ≡ false →
    ((tell_of r Other).text ≡ refused_text refusal.Form) ×
    ((tell_of r Other).run ≡ record { port = r.port; line = r.line; slots = r.slots; stopped = true })
unfolding tells
other r o = (ap (λ (t : Telling). t.text) (on r Other o), ap (λ (t : Telling). t.run) (on r Other o))

goes_on : (r : Run) (e : Event) → e ≢ Other → (tell_of r e).run.stopped ≡ r.stopped
unfolding tells
goes_on r (Received b) n = by_end r (Received b) (λ (t : Telling). t.run.stopped ≡ r.stopped) refl refl
goes_on r (Slots k) n = by_end r (Slots k) (λ (t : Telling). t.run.stopped ≡ r.stopped) refl refl
goes_on r (Measured m) n = by_end r (Measured m) (λ (t : Telling). t.run.stopped ≡ r.stopped) refl refl
goes_on r Other n = absurd (n refl)

received_slots : (r : Run) (b : ℕ) → (tell_of r (Received b)).run.slots ≡ r.slots
unfolding tells
received_slots r b = by_end r (Received b) (λ (t : Telling). t.run.slots ≡ r.slots) refl refl

measured_slots : (r : Run) (m : Measurement) → (tell_of r (Measured m)).run.slots ≡ r.slots
unfolding tells
measured_slots r m = by_end r (Measured m) (λ (t : Telling). t.run.slots ≡ r.slots) refl refl

-- ---- slots

-- the second of two tests, where neither held
neither : (a b : Bool) → (a || b) ≡ false → b ≡ false
neither true b e = never (cc)
neither false b e = e

-- n, or all that are left
left_is : (r : Run) (n k : ℕ) → is_over r ≡ false → r.slots + k ≤ last_slot → k ≤ n → (k ≡ n) ⊎ (r.slots + k ≡ last_slot) → slots_left r n ≡ k
unfolding slots_left
left_is r n k o h l c =
    let rest = last_slot - r.slots in
    cond_no _ _ (neither r.stopped (leb last_slot r.slots) o)
    ∙ by (λ (j : ℕ). j ≡ k) (ltb n rest) n rest
    (λ y. let t = ltb-true n rest y in ⊎_elim (λ e. omega arith) (λ e. omega arith) c)
    (λ y. let t = ltb-false n rest y in ⊎_elim (λ e. omega arith) (λ e. omega arith) c)

-- and so many are run and printed
run_and_told : (r : Run) (n k : ℕ) → is_over r ≡ false → slots_left r n ≡ k → ((tell_of r (Slots n)).run.slots ≡ r.slots + k) × ((tell_of r (Slots n)).text ≡ slots_text k r.port)
unfolding tells
run_and_told r n k o e = (
  ap (λ (t : Telling). t.run.slots) (on r (Slots n) o) ∙ ap (λ (j : ℕ). r.slots + j) e,
  ap (λ (t : Telling). t.text) (on r (Slots n) o) ∙ ap (λ (j : ℕ). slots_text j r.port) e,
)

last_slot_lem : (r : Run) (n k : ℕ) → is_over r ≡ false → r.slots + k ≡ 100000 → k ≤ n →
    ((tell_of r (Slots n)).run.slots ≡ 100000) × ((tell_of r (Slots n)).text ≡ slots_text k r.port) × (is_over (tell_of r (Slots n)).run ≡ true)
last_slot_lem r n k o e l =
    let t = run_and_told r n k o (left_is r n k o (omega arith) l (inr e)) in
    let all = t.0 ∙ e in
    let after = (tell_of r (Slots n)).run in
    (all, t.1, rw (le-leb 100000 after.slots (omega arith)) (or-true after.stopped))

ends : (r : Run) → (is_over r ≡ true) ↔ ((r.stopped ≡ true) ⊎ (100000 ≤ r.slots))
ends r = (
  λ o. told r.stopped (λ s. inl s) (λ s. inr (leb-true _ _ (rw s at o))),
  ⊎_elim (λ s. rw s) (λ h. rw (le-leb 100000 r.slots h) (or-true r.stopped)),
)

pub of_events : OfEvents
of_events = record {
  received = received;
  dropped = dropped;
  measured = measured;
  refused = refused;
  ends = ends;
  other = other;
  goes_on = goes_on;
  received_slots = received_slots;
  measured_slots = measured_slots;
  slots = λ r n o h. run_and_told r n n o (left_is r n n o h (omega arith) (inl refl));
  last_slot_lem = last_slot_lem;
  over = λ r e o. (ap (λ (t : Telling). t.text) (ended r e o), ap (λ (t : Telling). t.run) (ended r e o));
}

-- ---- for every event

after_valid : (n : ℕ) (p : Port) → valid_port p ≡ true → valid_port (after_slots n p) ≡ true
unfolding after_slots
after_valid zero p v = v
after_valid (suc n) p v = after_valid n (slot_of p).port (kept_valid.slot p v)

tells_few : (r : Run) (e : Event) → r.slots ≤ 100000 → (tells r e).run.slots ≤ 100000
unfolding tells
tells_few r (Received b) h = h
tells_few r (Slots n) h = ⊎_elim (λ z. omega arith) (λ z. z) (slots_fit r n)
tells_few r (Measured m) h = h
tells_few r Other h = h

-- no run has more slots than its last
pub few : (r : Run) (e : Event) → r.slots ≤ 100000 → (tell_of r e).run.slots ≤ 100000
few r e h = by_end r e (λ (t : Telling). t.run.slots ≤ 100000) h (tells_few r e h)

tells_ours : (r : Run) (e : Event) → Ours r → Ours (tells r e).run
unfolding tells
tells_ours r (Received b) o = record {
  port = kept_valid.receive r.port r.line b o.port;
  line = kept_valid.line r.port r.line b o.line;
  slots = o.slots;
}
tells_ours r (Slots n) o = record {
  port = after_valid (slots_left r n) r.port o.port;
  line = o.line;
  slots = tells_few r (Slots n) o.slots;
}
tells_ours r (Measured m) o = record { port = kept_valid.measure r.port m o.port; line = o.line; slots = o.slots }
tells_ours r Other o = record { port = o.port; line = o.line; slots = o.slots }

pub tell_valid : (r : Run) (e : Event) → valid_run r ≡ true → valid_run (tell_of r e).run ≡ true
tell_valid r e v = by_end r e (λ (t : Telling). valid_run t.run ≡ true) v (is_ours (tells r e).run (tells_ours r e (ours r v)))

-- ---- how much is printed

refused_short : (x : Refusal) → length (refused_text x) ≤ 15
unfolding labelled
refused_short x = let n = number_of x in rw (length-append (numeral n) _) (let w = six_at_most n in omega arith)

verdict_short : (v : Verdict) → length (verdict_text v) ≤ 15
verdict_short (Ok tt) = omega arith
verdict_short (Err x) = refused_short x

left_most : (r : Run) (n : ℕ) → slots_left r n ≤ n
unfolding slots_left
left_most r n =
    let rest = last_slot - r.slots in
    by (λ (k : ℕ). k ≤ n) (leb last_slot r.slots) _ _
    (λ y. omega arith)
    (λ f. by (λ (k : ℕ). k ≤ n) (ltb n rest) n rest (λ y. omega arith) (λ y. ltb-false n rest y))

tells_most : (r : Run) (e : Event) → ((n : ℕ) → e ≡ Slots n → n ≤ 999) → length (tells r e).text ≤ 2997
unfolding tells
tells_most r (Received b) h = let l = verdict_short (receive_of r.port r.line b).verdict in omega arith
tells_most r (Slots n) h =
    let few = h n refl in
    let k = left_most r n in
    let l = length_slots (slots_left r n) r.port in
    omega arith
tells_most r (Measured m) h = let l = verdict_short (measure_of r.port m).verdict in omega arith
tells_most r Other h = let l = refused_short refusal.Form in omega arith

pub longest : (r : Run) (e : Event) → ((n : ℕ) → e ≡ Slots n → n ≤ 999) → length (tell_of r e).text ≤ 2997
longest r e h = by_end r e (λ (t : Telling). length t.text ≤ 2997) (omega arith) (tells_most r e h)

pub short_line : (n : ℕ) → length (slots_line n) ≤ 3000
unfolding labelled
short_line n = rw (length-append (numeral n) _) (let w = six_at_most n in omega arith)

pub fits_left : (r : Run) (n : ℕ) → is_over r ≡ false → r.slots + n ≤ 100000 → slots_left r n ≡ n
fits_left r n o h = left_is r n n o h (omega arith) (inl refl)
