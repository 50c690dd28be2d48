-- The conversion and the check of a measurement refuse exactly in their cases: each test is what it says, and decides. Assumes nothing.
use Prim.Native.Nat.{ℕ}
use mathlib.Core.Bool.{Bool, true, false, ◌&&◌, ◌||◌}
use mathlib.Core.Logic.{◌↔◌, ◌⊎◌, inl, inr}
use mathlib.Core.Path.{◌≡◌, refl, ap, ◌∙◌}
use borrow.Author.Tests.{eqb-true, eqb-false, eq-eqb, ne_eqb, leb-true, le-leb}
use lib.Dec.{eqb, leb}
use lib.IntN.{ℤ, pos, negsuc}
use Rattle.std.specs.Prelude.{Err, Ok}
use Rattle.laws.proofs.Tests.{and_left, and_right, and_both, told, never}
use Rattle.refusal.specs.Answer.{Answer, unless}
use Rattle.refusal.specs.declared.Refusal.{Refusal}
use Rattle.refusal.specs.declared.Refusal.TheVariants.{Field}
use Rattle.units.specs.Units.{is_unit, top_in, is_distance, in_range, number_in, conversion}
use Rattle.units.specs.Measurement.{measurement_lowest, measurement_verdict}
use Rattle.units.proofs.Table.{measurement_by_table}
use Rattle.units.specs.Refuses.{UnitLetter, Convertible, ConvertWhen, CheckWhen, UnitsRefuse}
use Rattle.units.specs.declared.Measurement.{Measurement}

-- ---- what the tests say

-- a test that fails says that it is not so
fails : {P : Type 0} {b : Bool} → ((b ≡ true) ↔ P) → b ≡ false → P → ⊥
fails e f p = never (cc (e.1 p))

either : (a b : Bool) {P Q : Type 0} → (a ≡ true → P) → (b ≡ true → Q) → (a || b) ≡ true → P ⊎ Q
either true b f g e = inl (f refl)
either false b f g e = inr (g e)

or_left : {a : Bool} (b : Bool) → a ≡ true → (a || b) ≡ true
or_left b e = ap (λ (t : Bool). t || b) e

or_right : (a : Bool) {b : Bool} → b ≡ true → (a || b) ≡ true
or_right true e = refl
or_right false e = e

letter : (u : ℕ) → (is_unit u ≡ true) ↔ UnitLetter u
letter u = (either (eqb u 73) (eqb u 77) (eqb-true u 73) (eqb-true u 77), back) where
  back : UnitLetter u → is_unit u ≡ true
  back (inl e) = or_left (eqb u 77) (eq-eqb u 73 e)
  back (inr e) = or_right (eqb u 73) (eq-eqb u 77 e)

letters : (u v : ℕ) → ((is_unit u && is_unit v) ≡ true) ↔ (UnitLetter u × UnitLetter v)
letters u v = (
  λ e. ((letter u).0 (and_left (is_unit u) (is_unit v) e), (letter v).0 (and_right (is_unit u) (is_unit v) e)),
  λ h. and_both ((letter u).1 h.0) ((letter v).1 h.1),
)

four : (i : ℕ) → is_distance i ≡ true → (i ≡ 1) ⊎ (i ≡ 6) ⊎ (i ≡ 7) ⊎ (i ≡ 8)
four i e =
    told (eqb i 1)
    (λ y. inl (eqb-true i 1 y))
    (λ a.
    told (eqb i 6)
    (λ y. inr (inl (eqb-true i 6 y)))
    (λ b. inr (inr (either (eqb i 7) (eqb i 8) (eqb-true i 7) (eqb-true i 8) (rw (a, b) at e)))))

module _ (i unit : ℕ) where
  distance_is : (z : ℤ) → (eqb i 10) ≡ false → in_range i z unit ≡ true → Convertible i z unit
  unfolding in_range
  distance_is (pos n) t e =
      let h : (is_distance i && leb n (top_in unit)) ≡ true = rw t at e in
      inl (four i (and_left (is_distance i) (leb n (top_in unit)) h), (n, refl, leb-true n (top_in unit) (and_right (is_distance i) (leb n (top_in unit)) h)))
  distance_is (negsuc n) t e =
      let h : (is_distance i && false) ≡ true = rw t at e in
      never (cc (and_right (is_distance i) false h))

  range_is : (z : ℤ) → in_range i z unit ≡ true → Convertible i z unit
  unfolding in_range
  range_is z e = told (eqb i 10) (λ y. inr (eqb-true i 10 y, leb-true _ _ (rw y at e))) (λ n. distance_is z n e)

  is_range : (z : ℤ) → Convertible i z unit → in_range i z unit ≡ true
  unfolding in_range
  is_range z (inr h) = rw (eq-eqb i 10 h.0) (le-leb _ _ h.1)
  is_range z (inl (h, (n, e, k))) = ap (λ (y : ℤ). in_range i y unit) e ∙ far h
    where
      far : (i ≡ 1) ⊎ (i ≡ 6) ⊎ (i ≡ 7) ⊎ (i ≡ 8) → in_range i (pos n) unit ≡ true
      far (inl p) = rw p (le-leb n (top_in unit) k)
      far (inr (inl p)) = rw p (le-leb n (top_in unit) k)
      far (inr (inr (inl p))) = rw p (le-leb n (top_in unit) k)
      far (inr (inr (inr p))) = rw p (le-leb n (top_in unit) k)

-- a test that says what is so, and is not so
not_so : {P : Type 0} (b : Bool) → ((b ≡ true) ↔ P) → (P → ⊥) → b ≡ false
not_so b e n = told b (λ y. absurd (n (e.0 y))) (λ f. f)

-- ---- the conversion

unless_when : {A : Type 0} (ok : Bool) (x : Refusal) (k : Answer A) (r : Refusal) → unless ok x k ≡ Err r → ((ok ≡ false) × (r ≡ x)) ⊎ ((ok ≡ true) × (k ≡ Err r))
unfolding unless
unless_when true x k r e = inr (refl, e)
unless_when false x k r e = inl (refl, cc)

module _ (i : ℕ) (z : ℤ) (unit wanted : ℕ) (r : Refusal) where
  range : (in_range i z unit ≡ true) ↔ Convertible i z unit
  range = (range_is i unit z, is_range i unit z)

  converted : conversion i z unit wanted ≡ Err r → ConvertWhen i z unit wanted r
  unfolding conversion
  converted e = by_letters (unless_when (is_unit unit && is_unit wanted) (Field 0) _ r e) where
    by_range : UnitLetter unit × UnitLetter wanted → ((in_range i z unit ≡ false) × (r ≡ Field i)) ⊎ ((in_range i z unit ≡ true) × (Ok (number_in unit wanted z) ≡ Err r)) →
        ConvertWhen i z unit wanted r
    by_range h (inl n) = inr (h, (fails range n.0, n.1))
    by_range h (inr y) = let q : Ok (number_in unit wanted z) ≡ Err r = y.1 in never (cc)

    by_letters : (((is_unit unit && is_unit wanted) ≡ false) × (r ≡ Field 0)) ⊎
        (((is_unit unit && is_unit wanted) ≡ true) × (unless (in_range i z unit) (Field i) (Ok (number_in unit wanted z)) ≡ Err r)) → ConvertWhen i z unit wanted r
    by_letters (inl n) = inl (fails (letters unit wanted) n.0, n.1)
    by_letters (inr y) = by_range ((letters unit wanted).0 y.0) (unless_when (in_range i z unit) (Field i) _ r y.1)

  converts_not : ConvertWhen i z unit wanted r → conversion i z unit wanted ≡ Err r
  unfolding conversion unless
  converts_not (inl h) = rw (not_so (is_unit unit && is_unit wanted) (letters unit wanted) h.0, h.1)
  converts_not (inr h) = rw ((letters unit wanted).1 h.0, not_so (in_range i z unit) range h.1.0, h.1.1)

-- ---- the check of a measurement

module _ (m : Measurement) (r : Refusal) where
  checked : measurement_verdict m ≡ Err r → CheckWhen m r
  unfolding measurement_verdict
  checked e =
      told (is_unit m.unit)
      (λ y.
      told (eqb (measurement_lowest m) 0)
      (λ n. never (cc (rw (y, n) at e)))
      (λ n. inr ((letter m.unit).0 y, (_, ((measurement_by_table m).first_out _).0 (refl, eqb-false _ _ n), cc (rw (y, n) at e)))))
      (λ y. inl (fails (letter m.unit) y, cc (rw y at e)))

  not_done : CheckWhen m r → measurement_verdict m ≡ Err r
  unfolding measurement_verdict
  not_done (inl h) = rw (not_so (is_unit m.unit) (letter m.unit) h.0, h.1)
  not_done (inr (h, (i, out, e))) =
      let l = ((measurement_by_table m).first_out i).1 out in
      rw ((letter m.unit).1 h, l.0, ne_eqb i 0 l.1, e)

pub units_refuse : UnitsRefuse
units_refuse = record {
  convert_when = λ i z unit wanted r. (converted i z unit wanted r, converts_not i z unit wanted r);
  check_when = λ m r. (checked m r, not_done m r);
}
