-- An accepted measurement's numbers stay in range in either unit: the record that it gives may be sent. Assumes nothing.
use Prim.Native.Nat.{ℕ, suc, ◌+◌, ◌*◌, ◌/◌, ◌≤◌}
use mathlib.Core.Bool.{Bool, true, false, not, ◌&&◌, cond}
use mathlib.Core.List.{List}
use mathlib.Core.Path.{◌≡◌, refl}
use native.Mathlib.Nat.{le_trans}
use native.Mathlib.Omega.{arith}
use borrow.Author.Tests.{leb-true, le-leb, eqb-true, eq-eqb, ne_eqb, not-true}
use lib.Dec.{leb, eqb}
use lib.IntN.{ℤ}
use Rattle.std.specs.Prelude.{Err, Ok}
use Rattle.laws.proofs.Tests.{cond_yes, told, and_left, and_right, never}
use Rattle.sign.proofs.Law.{size_signed}
use Rattle.sign.specs.Sign.{size, below0}
use Rattle.refusal.specs.Answer.{Verdict}
use Rattle.refusal.specs.declared.Refusal.{Refusal}
use Rattle.codec.specs.Codec.{failing, first, text_ok}
use Rattle.codec.proofs.Exact.{holds, fine, first_zero, zero_first}
use Rattle.record.specs.Record.{top_distance, top_pupil, front_lowest, middle_lowest, back_lowest, figures_lowest, record_lowest}
use Rattle.record.specs.declared.Figures.{Figures}
use Rattle.units.specs.Units.{is_unit, by_unit, inch_distance, inch_pupil, top_in, most_in, size_in, number_in, is_distance, in_range, Distance}
use Rattle.units.specs.Measurement.{measurement_lowest, measurement_verdict, shown_distance, shown_pupil, figures_in, record_in}
use Rattle.units.specs.declared.Measurement.{Measurement}
use Rattle.units.proofs.Nearest.{either}

-- a converted size is about three times as large at most
pub size_bound : (unit wanted n : ℕ) → size_in unit wanted n ≤ 3 * n + 1
unfolding size_in by_unit
size_bound unit wanted n =
    told (eqb unit wanted)
    (λ e. rw e (omega arith))
    (λ e. told (eqb unit 73) (λ f. rw (e, f) (omega arith)) (λ f. rw (e, f) (omega arith)))

-- no range ends past the metric one
by_unit_bound : (u inch mm : ℕ) → inch ≤ mm → by_unit u inch mm ≤ mm
unfolding by_unit
by_unit_bound u inch mm h = told (eqb u 73) (λ e. rw e h) (λ e. rw e (omega arith))

pub top_bound : (u : ℕ) → top_in u ≤ top_distance
top_bound u = by_unit_bound u inch_distance top_distance (omega arith)

pub most_bound : (u : ℕ) → most_in u ≤ top_pupil
most_bound u = by_unit_bound u inch_pupil top_pupil (omega arith)

-- in the range of one unit, and converted, in the range of the other: inch and mm are where the two end
stays : (n inch mm unit wanted : ℕ) → (254 * inch + 50) / 100 ≤ mm → (100 * mm + 127) / 254 ≤ inch → is_unit unit ≡ true → is_unit wanted ≡ true →
    n ≤ by_unit unit inch mm → size_in unit wanted n ≤ by_unit wanted inch mm
unfolding size_in by_unit
stays n inch mm unit wanted a b p q =
    either (λ (u : ℕ). n ≤ by_unit u inch mm → size_in u wanted n ≤ by_unit wanted inch mm)
    (either (λ (w : ℕ). n ≤ inch → size_in 73 w n ≤ by_unit w inch mm) (λ h. h) (λ h. omega arith) wanted q)
    (either (λ (w : ℕ). n ≤ mm → size_in 77 w n ≤ by_unit w inch mm) (λ h. omega arith) (λ h. h) wanted q)
    unit p

-- ---- the number that is handed to the conversion

pub pupil_told : (i : ℕ) (z : ℤ) (unit : ℕ) → in_range i z unit ≡ true → i ≡ 10 → size z ≤ top_pupil
unfolding in_range
pupil_told i z unit h e = le_trans (leb-true (size z) (most_in unit) (rw (eq-eqb i 10 e) at h)) (most_bound unit)

pub distance_told : (i : ℕ) (z : ℤ) (unit : ℕ) → in_range i z unit ≡ true → (i ≡ 10 → ⊥) → Distance z
unfolding in_range
distance_told i z unit h n =
    let k = leb (size z) (top_in unit) in
    let r : (not (below0 z) && k) ≡ true = and_right (is_distance i) _ (rw (ne_eqb i 10 n) at h) in
    record {
      plus = not-true (below0 z) (and_left (not (below0 z)) k r);
      small = le_trans (leb-true (size z) (top_in unit) (and_right (not (below0 z)) k r)) (top_bound unit);
    }

-- ---- the figures

-- the fields that are converted, in range
pub record Reaches (top most : ℕ) (f : Figures) : Type 0 where
  pub focus : f.focus ≤ top
  pub hyperfocal : f.hyperfocal ≤ top
  pub near : f.near ≤ top
  pub far : f.far ≤ top
  pub pupil : size f.pupil ≤ most

within : (n top i : ℕ) → failing (leb n top) (suc i) ≡ 0 → n ≤ top
within n top i h = leb-true n top (holds (leb n top) i h)

pub reaches : (top most : ℕ) (f : Figures) → figures_lowest top most f ≡ 0 → Reaches top most f
unfolding figures_lowest front_lowest middle_lowest back_lowest
reaches top most f h =
    let p = first_zero _ _ h in
    let q = first_zero _ _ p.1 in
    let hyperfocal = first_zero _ _ (first_zero _ _ q.0).1 in
    let near = first_zero _ _ hyperfocal.1 in
    record {
      focus = within _ top 0 (first_zero _ _ p.0).0;
      hyperfocal = within _ top 5 hyperfocal.0;
      near = within _ top 6 near.0;
      far = within _ top 7 near.1;
      pupil = within _ most 9 (first_zero _ _ (first_zero _ _ q.1).1).0;
    }

-- where each part has no field out of range, the whole has none
steps : {x x' rest rest' : ℕ} → (x ≡ 0 → x' ≡ 0) → (rest ≡ 0 → rest' ≡ 0) → first x rest ≡ 0 → first x' rest' ≡ 0
steps {x} {x'} {rest} {rest'} f g h =
    let p = first_zero x rest h in
    zero_first x' rest' (f p.0) (g p.1)

-- a number in range is shown converted, not as 0
pub distance_whole : (unit display : ℕ) {n : ℕ} → n ≤ top_distance → shown_distance unit display n ≡ size_in unit display n
unfolding shown_distance
distance_whole unit display {n} h = cond_yes _ _ (le-leb n _ h)

pub pupil_whole : (unit display : ℕ) (z : ℤ) → size z ≤ top_pupil → shown_pupil unit display z ≡ number_in unit display z
unfolding shown_pupil
pupil_whole unit display z h = cond_yes _ _ (le-leb (size z) _ h)

-- as the five fields stay in range and the others are untouched, no field leaves its range
module _ (unit wanted top most top' most' : ℕ) (t : top ≤ top_distance) (m : most ≤ top_pupil) (distance : (n : ℕ) → n ≤ top → size_in unit wanted n ≤ top') (pupil : (n : ℕ) → n ≤ most → size_in unit wanted n ≤ most') where
  far_stays : (i n : ℕ) → failing (leb n top) (suc i) ≡ 0 → failing (leb (shown_distance unit wanted n) top') (suc i) ≡ 0
  far_stays i n h =
      let l = within n top i h in
      rw (distance_whole unit wanted (le_trans l t)) (fine _ (suc i) (le-leb _ top' (distance n l)))

  pupil_stays : (z : ℤ) → failing (leb (size z) most) 10 ≡ 0 → failing (leb (size (shown_pupil unit wanted z)) most') 10 ≡ 0
  unfolding number_in
  pupil_stays z h =
      let l = within (size z) most 9 h in
      rw (pupil_whole unit wanted z (le_trans l m), size_signed (below0 z) (size_in unit wanted (size z))) (fine _ 10 (le-leb _ most' (pupil (size z) l)))

  figures_stay : (f : Figures) → figures_lowest top most f ≡ 0 → figures_lowest top' most' (figures_in unit wanted f) ≡ 0
  unfolding figures_lowest front_lowest middle_lowest back_lowest figures_in
  figures_stay f =
      steps (steps (far_stays 0 f.focus) (λ h. h))
      (steps (steps (λ h. h) (steps (far_stays 5 f.hyperfocal) (steps (far_stays 6 f.near) (far_stays 7 f.far))))
      (steps (λ h. h) (steps (pupil_stays f.pupil) (λ h. h))))

-- ---- the measurement

done_told : (b c : Bool) (x y : Refusal) → ◌≡◌ {A = Verdict} (cond b (cond c (Ok tt) (Err x)) (Err y)) (Ok tt) → (b ≡ true) × (c ≡ true)
done_told true true x y e = (refl, refl)
done_told true false x y e = never (cc)
done_told false c x y e = never (cc)

-- what is known of a measurement that is accepted
pub record Accepted (m : Measurement) : Type 0 where
  pub letter : is_unit m.unit ≡ true
  pub figures : figures_lowest (top_in m.unit) (most_in m.unit) m.figures ≡ 0

pub accepted_told : (m : Measurement) → measurement_verdict m ≡ Ok tt → Accepted m
unfolding measurement_verdict measurement_lowest
accepted_told m h =
    let p = done_told (is_unit m.unit) (eqb (measurement_lowest m) 0) _ _ h in
    record { letter = p.0; figures = (first_zero _ _ (eqb-true (measurement_lowest m) 0 p.1)).0 }

pub sendable_in_either_unit : (m : Measurement) (display : ℕ) (serial : List ℕ) →
    measurement_verdict m ≡ Ok tt → is_unit display ≡ true → text_ok 9 serial ≡ true →
    record_lowest (record_in display m serial) ≡ 0
unfolding record_lowest record_in
sendable_in_either_unit m display serial done d s =
    let a = accepted_told m done in
    let unit = m.unit in
    zero_first _ _
    (figures_stay unit display (top_in unit) (most_in unit) top_distance top_pupil (top_bound unit) (most_bound unit)
    (λ n h. le_trans (stays n inch_distance top_distance unit display (omega arith) (omega arith) a.letter d h) (top_bound display))
    (λ n h. le_trans (stays n inch_pupil top_pupil unit display (omega arith) (omega arith) a.letter d h) (most_bound display))
    m.figures a.figures)
    (fine _ 12 s)
