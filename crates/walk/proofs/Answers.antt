-- The calls' answers beside the machine's: a received byte by the three things it may show, a slot by its bytes, and no 16 because what is held stays
-- sound. Assumes nothing.
use Prim.Native.Nat.{ℕ, zero, suc, ◌<◌}
use mathlib.Core.Bool.{true}
use mathlib.Core.List.{[], ◌∷◌}
use mathlib.Core.Logic.Iff
use mathlib.Core.Logic.{◌↔◌, ◌⊎◌, inl, inr, ◌≢◌}
use mathlib.Core.Option.{Option, some}
use mathlib.Core.Path.{◌≡◌, refl, sym, ap, subst, ◌∙◌}
use native.Mathlib.Omega.{arith}
use lib.Dec.{eqb}
use lib.ListN.{length}
use Rattle.std.specs.Prelude as std
use Rattle.std.specs.Prelude.{None, Some, is_some, Ok, Err}
use Rattle.laws.proofs.Tests.{cond_yes, by, never}
use Rattle.refusal.specs.Answer.{Answer, Verdict}
use Rattle.machine.specs.Machine.{Kind, State, port, Choice, choice, rules, Out, grew, took, dropped, idles, begin, on_slot, received, slot, shows, sent_in}
use Rattle.refusal.specs.declared.Refusal.{Refusal}
use Rattle.refusal.specs.declared.Refusal.TheVariants as refusal
use Rattle.units.specs.Units.{is_unit}
use Rattle.units.specs.Measurement.{measurement_lowest, measurement_verdict}
use Rattle.units.specs.declared.Measurement.{Measurement}
use Rattle.line.specs.declared.Line.{Line}
use Rattle.line.specs.Line.{ends}
use Rattle.rules.specs.Lens.{lens}
use Rattle.port.specs.declared.Port.{Port}
use Rattle.port.specs.Port.{valid_port, slot_of, receive_of}
use Rattle.port.proofs.Valid.{slot_fine}
use Rattle.port.proofs.Cases.{judged_measure}
use Rattle.fill.specs.declared.Filled.{Filled}
use Rattle.fill.specs.Fill.{SlotRun, then_run, run_of, fill_of}
use Rattle.walk.specs.View.{waits_of, view, bytes_of}
use Rattle.walk.specs.Calls.{Held, view_of, ran_by, ran}
use Rattle.walk.specs.Answers.{verdict_of, Answers}
use Rattle.walk.proofs.Slot.{waits_some, slot_acts}
use Rattle.walk.proofs.Walk.{walks}
use Rattle.walk.proofs.Calls.{Reached, reached}
use Rattle.walk.proofs.Here.{here}
use Rattle.walk.proofs.Byte.{byte_shows, by_byte}
use Rattle.walk.proofs.InOrder.{all_take, all_act}
use Rattle.walk.proofs.Messages.{all_start}

-- ---- a received byte

seven : (x : State lens) (b : ℕ) → (verdict_of (shows x (received b)) ≡ Err refusal.Dropped) ↔ (shows x (received b) ≡ dropped)
seven x b =
    by_byte (λ o. (verdict_of o ≡ Err refusal.Dropped) ↔ (o ≡ dropped)) x b
    (λ e. never cc, λ e. never cc)
    (λ c. (λ e. never cc, λ e. never cc))
    (λ e. refl, λ e. refl)

abbrev Well : Out lens → Type 0
Well o = (o ≡ grew) ⊎ ((c : Line) × (o ≡ took c))

not_well : Well dropped → ◌≡◌ {A = Verdict} (Err refusal.Dropped) (Ok tt)
not_well (inl e) = never cc
not_well (inr (c, e)) = never cc

done : (x : State lens) (b : ℕ) → (verdict_of (shows x (received b)) ≡ Ok tt) ↔ Well (shows x (received b))
done x b =
    by_byte (λ o. (verdict_of o ≡ Ok tt) ↔ Well o) x b
    (λ e. inl refl, λ e. refl)
    (λ c. (λ e. inr (c, refl), λ e. refl))
    (λ e. never cc, not_well)

not_16 : (x : State lens) (b : ℕ) → verdict_of (shows x (received b)) ≢ Err refusal.State
not_16 x b = by_byte (λ o. verdict_of o ≢ Err refusal.State) x b (λ e. never cc) (λ c e. never cc) (λ e. never cc)

some_waits : (w : std.Option Line) → is_some w ≡ true → (c : Line) × (waits_of w ≡ some c)
some_waits (Some c) e = (c, refl)
some_waits None e = never cc

-- dropped exactly where the line ends while a command waits: as promised
dropped_where : (h : Held) (b : ℕ) → Reached h → (shows (view_of h) (received b) ≡ dropped) ↔ ((ends h.line b ≡ true) × (is_some h.port.waiting ≡ true))
unfolding view
dropped_where h b r = (
  λ e.
      let f = (here r).dropped_only (received b) e in
      let same : b ≡ f.0 = cc in
      (subst (λ (d : ℕ). ends h.line d ≡ true) (sym same) f.2, ap is_some (waits_some h.port.waiting f.3 f.4)),
  λ e.
      let w = some_waits h.port.waiting e.1 in
      (here r).dropped_if_not b w.0 e.0 w.1,
)

-- ---- a slot

pub one_byte : (t : Answer (std.Option ℕ)) (b : ℕ) → bytes_of t ≡ b ∷ [] → t ≡ Ok (Some b)
one_byte (Ok (Some c)) b e = cc
one_byte (Ok None) b e = never cc
one_byte (Err r) b e = never cc

no_byte : (t : Answer (std.Option ℕ)) → ((r : Refusal) → t ≡ Err r → ⊥) → bytes_of t ≡ [] → t ≡ Ok None
no_byte (Ok (Some c)) f e = never cc
no_byte (Ok None) f e = refl
no_byte (Err r) f e = absurd (f r refl)

-- a slot of the machine that sends nothing idles
begin_quiet : (c : Choice lens) (k : Kind) (l : Line) → sent_in (begin c k l).1 ≡ [] → (a : Option Line) × ((begin c k l).1 ≡ idles a)
unfolding begin
begin_quiet (choice a m w k []) before l e = (a, refl)
begin_quiet (choice a m w k (b ∷ bs)) before l e = never cc

quiet : (x : State lens) → sent_in (shows x slot) ≡ [] → (a : Option Line) × (shows x slot ≡ idles a)
unfolding on_slot
quiet (port m w (b ∷ bs) k l) e = never cc
quiet (port m w [] k l) e = begin_quiet (rules lens m w k) k l e

-- ---- a measurement, a fill

in_range_lem : (m : Measurement) → measurement_verdict m ≢ Err refusal.State
unfolding measurement_verdict
in_range_lem m =
    let P : Verdict → Type 0 = λ v. v ≢ Err refusal.State in
    by P (is_unit m.unit) _ _ (λ y. by P (eqb (measurement_lowest m) 0) _ _ (λ z e. never cc) (λ z e. never cc)) (λ n e. never cc)

filled : (p : Port) (n : ℕ) → valid_port p ≡ true → fill_of p n ≡ record { verdict = Ok tt; count = length (run_of n p).bytes; port = (run_of n p).port }
unfolding fill_of
filled p n v = cond_yes _ _ v

-- what the count of a run into a buffer of n tells of the slots that it ran
record Told (n count slots : ℕ) : Type 0 where
  full : count ≡ n → slots ≡ count
  short : count < n → slots ≡ suc count

goes_on : (t : Answer (std.Option ℕ)) (q : Port) (r : SlotRun) (n k : ℕ) → Told n (length r.bytes) k → Told (suc n) (length (then_run t q r).bytes) (ran_by t k)
goes_on (Ok (Some b)) q r n k e = record { full = λ x. ap suc (e.full (omega arith)); short = λ x. ap suc (e.short (omega arith)) }
goes_on (Ok None) q r n k e = record { full = λ x. absurd (omega arith); short = λ x. refl }
goes_on (Err z) q r n k e = record { full = λ x. absurd (omega arith); short = λ x. refl }

ran_told : (n : ℕ) (p : Port) → Told n (length (run_of n p).bytes) (ran n p)
unfolding ran run_of
ran_told zero p = record { full = λ x. refl; short = λ x. absurd (omega arith) }
ran_told (suc n) p = goes_on (slot_of p).sent (slot_of p).port _ n _ (ran_told n (slot_of p).port)

fill_told : (p : Port) (n : ℕ) → valid_port p ≡ true → Told n (fill_of p n).count (ran n p)
fill_told p n v = subst (λ (x : Filled). Told n x.count (ran n p)) (sym (filled p n v)) (ran_told n p)

-- ---- all

pub answers : Answers
answers = record {
  receive_shows = λ h b f. shown h b (reached f);
  receive_7 = λ h b f. answered h b (reached f) (seven (view_of h) b);
  receive_done = λ h b f. answered h b (reached f) (done (view_of h) b);
  receive_7_where = λ h b f. answered h b (reached f) (Iff.trans (seven (view_of h) b) (dropped_where h b (reached f)));
  slot_byte = λ h b f.
      let e = sends h (reached f) in
      (λ x. sym e ∙ ap bytes_of x, λ x. one_byte (slot_of h.port).sent b (e ∙ x));
  slot_idle = λ h f.
      let e = sends h (reached f) in
      (λ x. quiet (view_of h) (sym e ∙ ap bytes_of x), λ x. no_byte (slot_of h.port).sent (fine h (reached f)) (e ∙ ap sent_in x.1));
  slot_acts = λ h c f. slot_acts h.port h.line c (reached f).sound;
  taken_is = all_take;
  acted_is = all_act;
  started_is = all_start;
  receive_16 = λ h b f e. not_16 (view_of h) b (sym (shown h b (reached f)) ∙ e);
  slot_16 = λ h r f. fine h (reached f) r;
  measure_by = λ h m f. judged_measure h.port m (reached f).sound.valid;
  measure_16 = λ h m f e. in_range_lem m (sym (judged_measure h.port m (reached f).sound.valid) ∙ e);
  fill_done = λ h n f. ap (λ (x : Filled). x.verdict) (filled h.port n (reached f).sound.valid);
  fill_full = λ h n f. (fill_told h.port n (reached f).sound.valid).full;
  fill_short = λ h n f. (fill_told h.port n (reached f).sound.valid).short;
}
  where
    shown : (h : Held) (b : ℕ) → Reached h → (receive_of h.port h.line b).verdict ≡ verdict_of (shows (view_of h) (received b))
    shown h b r = byte_shows h.port h.line b r.sound r.line

    answered : {X : Type 0} {v : Verdict} (h : Held) (b : ℕ) → Reached h → (verdict_of (shows (view_of h) (received b)) ≡ v) ↔ X → ((receive_of h.port h.line b).verdict ≡ v) ↔ X
    answered {X} {v} h b r = subst (λ (x : Verdict). (x ≡ v) ↔ X) (sym (shown h b r))

    sends : (h : Held) → Reached h → bytes_of (slot_of h.port).sent ≡ sent_in (shows (view_of h) slot)
    sends h r = walks.slot_sends h.port h.line r.sound

    fine : (h : Held) → Reached h → (r : Refusal) → (slot_of h.port).sent ≢ Err r
    fine h r = (slot_fine h.port r.sound.valid).answers
