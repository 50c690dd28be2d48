-- The old line is exact, blames the first wrong field where it stands, and holds exactly what its rule allows: its zoom is one field more that does, and
-- all else is the present line's. Assumes nothing.
use Prim.Native.Nat.{ℕ, zero, suc, ◌+◌, ◌*◌, ◌/◌, ◌%◌}
use mathlib.Core.Bool.{Bool, true, false, ◌&&◌}
use mathlib.Core.List.{[], ◌∷◌, ◌++◌, append_assoc}
use mathlib.Core.Logic.{inl}
use mathlib.Core.Path.{◌≡◌, refl, ap₂}
use native.Mathlib.Omega.{arith}
use borrow.Author.Tests.{leb-true, le-leb, eqb-true, eq-eqb}
use lib.Dec.{leb, eqb}
use lib.ListN.{length, length-append}
use Rattle.laws.proofs.MemberLaws.{the_only}
use Rattle.laws.proofs.Tests.{and_left, and_right, and_both}
use Rattle.digits.specs.Digits.{digits}
use Rattle.codec.specs.Codec.{failing, first, passed, number, tagged, ◌⊗◌}
use Rattle.codec.specs.Places.{end_to_end}
use Rattle.codec.proofs.Exact.{Exact, Codes, holds, fine, first_zero, zero_first, passed_is}
use Rattle.codec.proofs.Blames.{Alone, Blames, digits_alone, ⊗_alone, through_alone, ⊗_blames, iso_blames}
use Rattle.pointed.specs.Pointed.{point, pointed}
use Rattle.stop.specs.Stop.{stop}
use Rattle.pupil.specs.Pupil.{pupil_text}
use Rattle.record.specs.Record.{front_lowest, middle_lowest, back_lowest, figures_lowest}
use Rattle.record.specs.Forms.{front_text, middle_text, ten_text, figures_of, groups_of}
use Rattle.record.specs.Places.{text_places}
use Rattle.record.specs.declared.Figures.{Figures}
use Rattle.record.proofs.Exact.{front_text_lem, middle_text_lem, back_blames, front_text_long}
use Rattle.archive.specs.Old.{by_ten, old_zoom, old_back, old_form, old_length, old_lowest, old_places}

-- thousandths that divide by ten are made of their hundredths, and of no others
codes : Codes (tagged 122 11 (number 11 10 48 1 1) ⊗ tagged point 11 (number 11 10 48 2 99)) (λ z. leb z 1000 && by_ten z)
    (λ z. (z / 10 / 100, z / 10 % 100)) (λ z. []) (λ p. passed (leb (p.0 * 100 + p.1) 100) 11 ((p.0 * 100 + p.1) * 10))
unfolding passed by_ten
codes = record {
  sent = λ z p h m.
      let k = leb-true z 1000 (and_left (leb z 1000) (eqb (z % 10) 0) h) in
      let t = eqb-true (z % 10) 0 (and_right (leb z 1000) (eqb (z % 10) 0) h) in
      let low = le-leb (z / 10 / 100 * 100 + z / 10 % 100) 100 (omega arith) in
      let e : (z / 10 / 100 * 100 + z / 10 % 100) * 10 ≡ z = omega arith in
      rw (the_only m) (zero_first _ _ (fine _ _ (le-leb (z / 10 / 100) 1 (omega arith))) (fine _ _ (le-leb (z / 10 % 100) 99 (omega arith))), rw (low, e));
  taken = λ p z h e.
      let n = first_zero (failing (leb p.0 1) 11) (failing (leb p.1 99) 11) h in
      let k = leb-true p.1 99 (holds _ 10 n.1) in
      let q = passed_is (leb (p.0 * 100 + p.1) 100) 11 ((p.0 * 100 + p.1) * 10) z e in
      let low = leb-true (p.0 * 100 + p.1) 100 q.0 in
      let f : (p.0 * 100 + p.1) * 10 ≡ z = q.1 in
      (and_both (le-leb z 1000 (omega arith)) (eq-eqb (z % 10) 0 (omega arith)), inl (ap₂ (λ (a b : ℕ). (a, b)) (omega arith) (omega arith)));
}

zoom_alone : Alone 11 old_zoom
unfolding old_zoom by_ten
zoom_alone =
    through_alone 10 _ _ _ _ _ _ codes 0 refl
    (⊗_alone 11 _ _ (digits_alone 122 10 1 1 (omega arith) (omega arith)) (digits_alone point 10 2 99 (omega arith) (omega arith)))

pub zoom_width : old_zoom.width ≡ 5
unfolding old_zoom
zoom_width = refl

pub back_blamed : Blames old_back 8 (end_to_end 0 (6 ∷ 5 ∷ 5 ∷ []))
unfolding old_back old_zoom
back_blamed = back_blames old_zoom zoom_alone

pub old_blames : Blames old_form 0 old_places
unfolding old_form old_places text_places front_text middle_text old_back old_zoom stop pointed pupil_text
old_blames = iso_blames figures_of groups_of _ (λ p. refl) (λ f. refl) 0 _ (⊗_blames _ _ 0 _ _ front_text_lem (⊗_blames _ _ 4 _ _ middle_text_lem back_blamed))

pub old_exact : Exact old_form
old_exact = old_blames.exact

pub old_width : old_form.width ≡ old_length
unfolding old_form front_text middle_text old_back old_zoom stop pointed pupil_text
old_width = refl

pub zoom_long : (z : ℕ) → length (old_zoom.print z) ≡ 5
unfolding old_zoom digits
zoom_long z = refl

-- whatever the figures
pub old_long : (f : Figures) → length (old_form.print f) ≡ old_length
unfolding old_form middle_text old_back old_zoom pointed pupil_text digits
old_long f = simp (length-append, front_text_long)

-- fields 1 to 10 and the zoom
pub old_parts : (f : Figures) → ten_text f ++ old_zoom.print f.zoom ≡ old_form.print f
unfolding old_form old_back
old_parts f = simp append_assoc

-- ---- the rule

first_of : (a b c : ℕ) → first (first a b) c ≡ first a (first b c)
unfolding first
first_of zero b c = refl
first_of (suc a) b c = refl

failing_both : (a b : Bool) (i : ℕ) → first (failing a (suc i)) (failing b (suc i)) ≡ failing (a && b) (suc i)
unfolding first failing
failing_both true b i = refl
failing_both false b i = refl

pub old_lowest_lem : (f : Figures) → old_form.lowest f ≡ old_lowest f
unfolding old_form front_text middle_text old_back old_zoom stop pointed pupil_text old_lowest figures_lowest front_lowest middle_lowest back_lowest
old_lowest_lem f = simp first_of (rw (failing_both (leb f.zoom 1000) (by_ten f.zoom) 10))
