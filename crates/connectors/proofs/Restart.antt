-- A restart is refused in its cases and no others, and makes two new ports else: by the verdicts of two starts. Assumes nothing.
use mathlib.Core.Bool.{true}
use mathlib.Core.Logic.{◌↔◌, ◌⊎◌, inl, inr, ⊎_elim, ◌≢◌}
use mathlib.Core.Path.{◌≡◌, refl, sym, ap, ap₂, subst, ◌∙◌}
use borrow.Author.Tests.{eqb-true, eqb-false}
use lib.Dec.{eqb}
use Rattle.std.specs.Prelude.{Err, Ok}
use Rattle.laws.proofs.Tests.{told, never}
use Rattle.refusal.specs.Answer.{Verdict}
use Rattle.refusal.specs.declared.Refusal.{Refusal}
use Rattle.refusal.specs.declared.Refusal.TheVariants.{Setting}
use Rattle.fixed.specs.Fixed.{settings_lowest}
use Rattle.fixed.specs.declared.Settings.{Settings}
use Rattle.units.specs.Measurement.{measurement_verdict}
use Rattle.units.specs.declared.Measurement.{Measurement}
use Rattle.line.specs.Line.{blank}
use Rattle.port.specs.declared.Port.{Port}
use Rattle.port.specs.Port.{valid_port, unstarted, start_verdict, started_port, start_of}
use Rattle.port.proofs.Promises.{start_verdict_lem, leaves_new, kept_valid}
use Rattle.port.proofs.Cases.{by_case, good_settings}
use Rattle.connectors.specs.declared.Side.TheVariants.{Camera, External}
use Rattle.connectors.specs.declared.Connectors.{Connectors}
use Rattle.connectors.specs.declared.Lines.{Lines}
use Rattle.connectors.specs.declared.StartedBoth.{StartedBoth}
use Rattle.connectors.specs.Connectors.{port_at, first_refused, both_verdict, started_both, blank_lines, started_by, start_both}
use Rattle.connectors.specs.Promises.{RestartCase, Restart, BothValid}

-- ---- the first refusal of two verdicts

first_done : (v w : Verdict) → (first_refused v w ≡ Ok tt) ↔ ((v ≡ Ok tt) × (w ≡ Ok tt))
first_done (Ok tt) w = (λ e. (refl, e), λ h. h.1)
first_done (Err r) w = (λ e. never (cc), λ h. h.0)

first_refused_lem : (v w : Verdict) (r : Refusal) → (first_refused v w ≡ Err r) ↔ ((v ≡ Err r) ⊎ ((v ≡ Ok tt) × (w ≡ Err r)))
first_refused_lem (Ok tt) w r = (λ e. inr (refl, e), ⊎_elim (λ h. never (cc)) (λ h. h.1))
first_refused_lem (Err x) w r = (λ e. inl e, ⊎_elim (λ h. h) (λ h. let z = h.0 in never (cc)))

-- ---- the verdict

module _ (s : Settings) (camera external : Measurement) where
  bad : settings_lowest s ≢ 0 → both_verdict s camera external ≡ Err (Setting (settings_lowest s))
  unfolding both_verdict
  bad n =
      let e = sym (start_verdict_lem unstarted blank s camera) ∙ (by_case.start unstarted blank s camera _).1 (inl (n, refl)) in
      ap (λ (v : Verdict). first_refused v (start_verdict s external)) e

  good : settings_lowest s ≡ 0 → both_verdict s camera external ≡ first_refused (measurement_verdict camera) (measurement_verdict external)
  unfolding both_verdict
  good z = ap₂ first_refused (good_settings s camera z) (good_settings s external z)

  judged : {C : Type 0} → (settings_lowest s ≡ 0 → C) → (settings_lowest s ≢ 0 → C) → C
  judged f g = told (eqb (settings_lowest s) 0) (λ y. f (eqb-true _ 0 y)) (λ n. g (eqb-false _ 0 n))

  accepts : (both_verdict s camera external ≡ Ok tt) ↔ ((settings_lowest s ≡ 0) × (measurement_verdict camera ≡ Ok tt) × (measurement_verdict external ≡ Ok tt))
  accepts = (
    λ e. judged (λ z. let h = (first_done _ _).0 (sym (good z) ∙ e) in (z, h.0, h.1)) (λ n. let f = bad n in never (cc)),
    λ h. good h.0 ∙ (first_done _ _).1 (h.1, h.2),
  )

  refuses : (r : Refusal) → (both_verdict s camera external ≡ Err r) ↔ RestartCase s camera external r
  refuses r = (
    λ e.
        judged
        (λ z. ⊎_elim (λ h. inr (inl (z, h))) (λ h. inr (inr (z, h.0, h.1))) ((first_refused_lem _ _ r).0 (sym (good z) ∙ e)))
        (λ n. let f : Err (Setting (settings_lowest s)) ≡ Err r = sym (bad n) ∙ e in inl (n, cc)),
    ⊎_elim
        (λ h. bad h.0 ∙ ap Err (sym h.1))
        (⊎_elim (λ h. good h.0 ∙ (first_refused_lem _ _ r).1 (inl h.1)) (λ h. good h.0 ∙ (first_refused_lem _ _ r).1 (inr (h.1, h.2)))),
  )

-- ---- what it hands back

by_started : (P : StartedBoth → Type 0) (v : Verdict) (new old : Connectors) (lines : Lines) →
    (v ≡ Ok tt → P (record { verdict = Ok tt; connectors = new; lines = blank_lines })) →
    ((r : Refusal) → v ≡ Err r → P (record { verdict = Err r; connectors = old; lines = lines })) → P (started_by v new old lines)
by_started P (Ok tt) new old lines f g = f refl
by_started P (Err r) new old lines f g = g r refl

module _ (old : Connectors) (lines : Lines) (s : Settings) (camera external : Measurement) where
  restarts : (P : StartedBoth → Type 0) →
      (both_verdict s camera external ≡ Ok tt → P (record { verdict = Ok tt; connectors = started_both s camera external; lines = blank_lines })) →
      ((r : Refusal) → both_verdict s camera external ≡ Err r → P (record { verdict = Err r; connectors = old; lines = lines })) →
      P (start_both old lines s camera external)
  unfolding start_both
  restarts P = by_started P (both_verdict s camera external) (started_both s camera external) old lines

  verdict_is : (start_both old lines s camera external).verdict ≡ both_verdict s camera external
  verdict_is = restarts (λ (x : StartedBoth). x.verdict ≡ both_verdict s camera external) (λ d. sym d) (λ r e. sym e)

  old_stays : (r : Refusal) → (start_both old lines s camera external).verdict ≡ Err r →
      ((start_both old lines s camera external).connectors ≡ old) × ((start_both old lines s camera external).lines ≡ lines)
  old_stays r =
      restarts (λ (x : StartedBoth). x.verdict ≡ Err r → (x.connectors ≡ old) × (x.lines ≡ lines)) (λ d e. never (cc)) (λ y f e. (refl, refl))

  -- accepted, all is new
  all_new : (start_both old lines s camera external).verdict ≡ Ok tt →
      ((start_both old lines s camera external).connectors ≡ started_both s camera external) × ((start_both old lines s camera external).lines ≡ blank_lines)
  all_new =
      restarts (λ (x : StartedBoth). x.verdict ≡ Ok tt → (x.connectors ≡ started_both s camera external) × (x.lines ≡ blank_lines))
      (λ d e. (refl, refl)) (λ r f e. never (cc))

  camera_port : (start_both old lines s camera external).verdict ≡ Ok tt →
      (port_at (start_both old lines s camera external).connectors Camera ≡ started_port s camera) × ((start_both old lines s camera external).lines.camera ≡ blank)
  camera_port d = let n = all_new d in (ap (λ (b : Connectors). port_at b Camera) n.0, ap (λ (l : Lines). l.camera) n.1)

  external_port : (start_both old lines s camera external).verdict ≡ Ok tt →
      (port_at (start_both old lines s camera external).connectors External ≡ started_port s external) × ((start_both old lines s camera external).lines.external ≡ blank)
  external_port d = let n = all_new d in (ap (λ (b : Connectors). port_at b External) n.0, ap (λ (l : Lines). l.external) n.1)

pub restart : Restart
restart = record {
  accepted = λ old lines s c e.
      let v = verdict_is old lines s c e in
      (λ d. (accepts s c e).0 (sym v ∙ d), λ h. v ∙ (accepts s c e).1 h);
  refused = λ old lines s c e r.
      let v = verdict_is old lines s c e in
      (λ d. (refuses s c e r).0 (sym v ∙ d), λ h. v ∙ (refuses s c e r).1 h);
  refused_same = old_stays;
  camera_port = camera_port;
  external_port = external_port;
}

-- ---- two new ports are valid

new_valid : (s : Settings) (m : Measurement) → settings_lowest s ≡ 0 → measurement_verdict m ≡ Ok tt → valid_port (started_port s m) ≡ true
new_valid s m z d =
    let e : (start_of unstarted blank s m).verdict ≡ Ok tt = start_verdict_lem unstarted blank s m ∙ good_settings s m z ∙ d in
    subst (λ (p : Port). valid_port p ≡ true) (leaves_new unstarted blank s m e).0 (kept_valid.start unstarted blank s m e)

pub started_valid : (old : Connectors) (lines : Lines) (s : Settings) (camera external : Measurement) → (start_both old lines s camera external).verdict ≡ Ok tt →
    BothValid (start_both old lines s camera external).connectors
started_valid old lines s c e d Camera =
    let h = (restart.accepted old lines s c e).0 d in
    ap valid_port (restart.camera_port old lines s c e d).0 ∙ new_valid s c h.0 h.1
started_valid old lines s c e d External =
    let h = (restart.accepted old lines s c e).0 d in
    ap valid_port (restart.external_port old lines s c e d).0 ∙ new_valid s e h.0 h.2
