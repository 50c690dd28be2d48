-- Each entry of the port refuses exactly in its cases: its verdict, test by test. Assumes nothing.
use Prim.Native.Nat.{ℕ}
use mathlib.Core.Bool.{true, false, ◌&&◌}
use mathlib.Core.Logic.{◌↔◌, inl, inr, ◌≢◌}
use mathlib.Core.Path.{◌≡◌, refl, sym, ap, ◌∙◌}
use borrow.Author.Tests.{eqb-true, ne_eqb, eq-eqb}
use lib.Dec.{eqb}
use Rattle.std.specs.Prelude.{is_some, Ok, Err}
use Rattle.laws.proofs.Tests.{cond_yes, cond_no, told, never}
use Rattle.refusal.specs.Answer.{Verdict}
use Rattle.refusal.specs.declared.Refusal.{Refusal}
use Rattle.refusal.specs.declared.Refusal.TheVariants as refusal
use Rattle.fixed.specs.Fixed.{settings_lowest}
use Rattle.fixed.specs.declared.Settings.{Settings}
use Rattle.units.specs.Measurement.{measurement_verdict}
use Rattle.units.specs.declared.Measurement.{Measurement}
use Rattle.line.specs.declared.Line.{Line}
use Rattle.line.specs.Line.{ends, valid_line}
use Rattle.port.specs.declared.Port.{Port}
use Rattle.port.specs.declared.Handed.{Handed}
use Rattle.port.specs.declared.Received.{Received}
use Rattle.port.specs.declared.Slotted.{Slotted}
use Rattle.port.specs.Port.{valid_port, slot_of, taken_of, receive_of, handed, measured_port, measure_of, start_verdict}
use Rattle.port.specs.Promises.{ReceiveCase, MeasureCase, StartCase, ByCase}
use Rattle.port.proofs.Valid.{slot_fine}
use Rattle.port.proofs.Promises.{refused, start_verdict_lem}

slot_case : (p : Port) (r : Refusal) → ((slot_of p).sent ≡ Err r) ↔ ((valid_port p ≡ false) × (r ≡ refusal.State))
slot_case p r = (
  λ e.
      told (valid_port p)
      (λ v. absurd ((slot_fine p v).answers r e))
      (λ n. let f : Err refusal.State ≡ Err r = sym (ap (λ (x : Slotted). x.sent) (refused p n)) ∙ e in (n, cc)),
  λ h. ap (λ (x : Slotted). x.sent) (refused p h.0) ∙ ap Err (sym h.1),
)

-- ---- a received byte

module _ (p : Port) (l : Line) (b : ℕ) where
  refused_byte : valid_port p && valid_line l ≡ false → (receive_of p l b).verdict ≡ Err refusal.State
  unfolding receive_of
  refused_byte n = ap (λ (x : Received). x.verdict) (cond_no _ _ n)

  ended_byte : valid_port p && valid_line l ≡ true → ends l b ≡ true → (receive_of p l b).verdict ≡ (taken_of p l).verdict
  unfolding receive_of
  ended_byte v y = ap (λ (x : Received). x.verdict) (cond_yes _ _ v ∙ cond_yes _ _ y)

  joined_byte : valid_port p && valid_line l ≡ true → ends l b ≡ false → (receive_of p l b).verdict ≡ Ok tt
  unfolding receive_of
  joined_byte v n = ap (λ (x : Received). x.verdict) (cond_yes _ _ v ∙ cond_no _ _ n)

  dropped_line : is_some p.waiting ≡ true → (taken_of p l).verdict ≡ Err refusal.Dropped
  unfolding taken_of
  dropped_line w = ap (λ (x : Received). x.verdict) (cond_yes _ _ w)

  taken_line : is_some p.waiting ≡ false → (taken_of p l).verdict ≡ Ok tt
  unfolding taken_of
  taken_line w = ap (λ (x : Received). x.verdict) (cond_no _ _ w)

  receive_only : (r : Refusal) → (receive_of p l b).verdict ≡ Err r → ReceiveCase p l b r
  receive_only r e =
      told (valid_port p && valid_line l)
      (λ v.
      told (ends l b)
      (λ y.
      told (is_some p.waiting)
      (λ w. let f : Err refusal.Dropped ≡ Err r = sym (ended_byte v y ∙ dropped_line w) ∙ e in inr (v, y, w, cc))
      (λ w. let f : Ok tt ≡ Err r = sym (ended_byte v y ∙ taken_line w) ∙ e in never cc))
      (λ n. let f : Ok tt ≡ Err r = sym (joined_byte v n) ∙ e in never cc))
      (λ n. let f : Err refusal.State ≡ Err r = sym (refused_byte n) ∙ e in inl (n, cc))

  receive_given : (r : Refusal) → ReceiveCase p l b r → (receive_of p l b).verdict ≡ Err r
  receive_given r (inl h) = refused_byte h.0 ∙ ap Err (sym h.1)
  receive_given r (inr h) = ended_byte h.0 h.1 ∙ dropped_line h.2 ∙ ap Err (sym h.3)

-- ---- a measurement

handed_verdict : (v : Verdict) (new old : Port) → (handed v new old).verdict ≡ v
unfolding handed
handed_verdict (Ok tt) new old = refl
handed_verdict (Err r) new old = refl

module _ (p : Port) (m : Measurement) where
  refused_measure : valid_port p ≡ false → (measure_of p m).verdict ≡ Err refusal.State
  unfolding measure_of
  refused_measure n = ap (λ (x : Handed). x.verdict) (cond_no _ _ n)

  pub judged_measure : valid_port p ≡ true → (measure_of p m).verdict ≡ measurement_verdict m
  unfolding measure_of
  judged_measure v = ap (λ (x : Handed). x.verdict) (cond_yes _ _ v) ∙ handed_verdict (measurement_verdict m) (measured_port p m) p

  measure_only : (r : Refusal) → (measure_of p m).verdict ≡ Err r → MeasureCase p m r
  measure_only r e =
      told (valid_port p)
      (λ v. inr (v, sym (judged_measure v) ∙ e))
      (λ n. let f : Err refusal.State ≡ Err r = sym (refused_measure n) ∙ e in inl (n, cc))

  measure_given : (r : Refusal) → MeasureCase p m r → (measure_of p m).verdict ≡ Err r
  measure_given r (inl h) = refused_measure h.0 ∙ ap Err (sym h.1)
  measure_given r (inr h) = judged_measure h.0 ∙ h.1

-- ---- a start

module _ (s : Settings) (m : Measurement) where
  bad_setting : settings_lowest s ≢ 0 → start_verdict s m ≡ Err (refusal.Setting (settings_lowest s))
  unfolding start_verdict
  bad_setting n = cond_no _ _ (ne_eqb (settings_lowest s) 0 n)

  pub good_settings : settings_lowest s ≡ 0 → start_verdict s m ≡ measurement_verdict m
  unfolding start_verdict
  good_settings z = cond_yes _ _ (eq-eqb (settings_lowest s) 0 z)

  start_only : (r : Refusal) → start_verdict s m ≡ Err r → StartCase s m r
  start_only r e =
      told (eqb (settings_lowest s) 0)
      (λ y. let z = eqb-true (settings_lowest s) 0 y in inr (z, sym (good_settings z) ∙ e))
      (λ n.
      let some : settings_lowest s ≢ 0 = λ z. let y = eq-eqb (settings_lowest s) 0 z in never cc in
      let f : Err (refusal.Setting (settings_lowest s)) ≡ Err r = sym (bad_setting some) ∙ e in inl (some, cc))

  start_given : (r : Refusal) → StartCase s m r → start_verdict s m ≡ Err r
  start_given r (inl h) = bad_setting h.0 ∙ ap Err (sym h.1)
  start_given r (inr h) = good_settings h.0 ∙ h.1

pub by_case : ByCase
by_case = record {
  slot = slot_case;
  receive = λ p l b r. (receive_only p l b r, receive_given p l b r);
  measure = λ p m r. (measure_only p m r, measure_given p m r);
  start = λ old l s m r. (λ e. start_only s m r (sym (start_verdict_lem old l s m) ∙ e), λ h. start_verdict_lem old l s m ∙ start_given s m r h);
}
