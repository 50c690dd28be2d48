-- What a valid source says of its parts, and how it is put together of them again. Assumes nothing.
use Prim.Native.Nat.{ℕ}
use mathlib.Core.Bool.{true, false≢true}
use mathlib.Core.Path.{◌≡◌, refl, ap, ◌∙◌}
use borrow.Author.Tests.{eqb-true, eq-eqb}
use lib.Dec.{leb, eqb}
use Rattle.std.specs.Prelude.{Err, Ok}
use Rattle.laws.proofs.Tests.{and_left, and_right, and_both}
use Rattle.refusal.specs.Answer.{Verdict, is_done}
use Rattle.fixed.specs.Fixed.{settings_lowest}
use Rattle.units.specs.Units.{is_unit}
use Rattle.units.specs.Measurement.{measurement_verdict}
use Rattle.state.specs.declared.Source.{Source}
use Rattle.state.specs.State.{valid_modes, valid_source}
use Rattle.rules.specs.Rows.{Untouched}

pub record Valid (s : Source) : Type 0 where
  pub settings : settings_lowest s.settings ≡ 0
  pub measurement : measurement_verdict s.measurement ≡ Ok tt
  pub film : leb s.modes.film 31 ≡ true
  pub unit : is_unit s.modes.unit ≡ true
  pub rate : leb s.modes.rate 7 ≡ true
  pub next_rate_lem : leb s.modes.next_rate 7 ≡ true

pub done_is : (v : Verdict) → is_done v ≡ true → v ≡ Ok tt
done_is (Ok tt) e = refl
done_is (Err r) e = absurd (false≢true e)

pub valid_told : (s : Source) → valid_source s ≡ true → Valid s
unfolding valid_source valid_modes
valid_told s v =
    let w = and_right (eqb (settings_lowest s.settings) 0) _ v in
    let m = and_right (is_done (measurement_verdict s.measurement)) _ w in
    let u = and_right (leb s.modes.film 31) _ m in
    let r = and_right (is_unit s.modes.unit) _ u in
    record {
      settings = eqb-true _ 0 (and_left _ _ v);
      measurement = done_is _ (and_left _ _ w);
      film = and_left _ _ m;
      unit = and_left _ _ u;
      rate = and_left _ _ r;
      next_rate_lem = and_right (leb s.modes.rate 7) _ r;
    }

pub valid_made : (s : Source) → Valid s → valid_source s ≡ true
unfolding valid_source valid_modes
valid_made s p =
    and_both (eq-eqb _ 0 p.settings)
    (and_both (ap is_done p.measurement) (and_both p.film (and_both p.unit (and_both p.rate p.next_rate_lem))))

-- what touches nothing that has a range leaves the source valid
pub untouched_valid : (s t : Source) → Untouched s t → Valid s → Valid t
untouched_valid s t u p = record {
  settings = ap settings_lowest u.settings ∙ p.settings;
  measurement = ap measurement_verdict u.measurement ∙ p.measurement;
  film = ap (λ (n : ℕ). leb n 31) u.film ∙ p.film;
  unit = ap is_unit u.unit ∙ p.unit;
  rate = ap (λ (n : ℕ). leb n 7) u.rate ∙ p.rate;
  next_rate_lem = ap (λ (n : ℕ). leb n 7) u.next_rate_lem ∙ p.next_rate_lem;
}
