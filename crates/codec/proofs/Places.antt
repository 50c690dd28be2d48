-- Which bytes are field i's among places that follow others, and that the first wrong field is one of the fields, and one only. Assumes nothing.
use Prim.Native.Nat.{ℕ, zero, suc, ◌+◌, ◌≤◌, ◌<◌}
use mathlib.Core.List.{List, [], ◌∷◌, ◌++◌}
use mathlib.Core.Path.{◌≡◌, refl, sym, ap, ◌∙◌}
use native.Mathlib.Omega.{arith}
use borrow.Author.Tests.{leb-true, leb-false}
use lib.Dec.{leb}
use lib.ListN.{length, take, drop}
use lib.Seq.{drop-drop}
use Rattle.laws.proofs.Tests.{told}
use Rattle.codec.specs.Places.{Place, further, field_of, Spelt, FirstWrong}

-- ---- where a field stands

no_field_0 : (ps : List Place) (s : List ℕ) → field_of ps 0 s ≡ []
unfolding field_of
no_field_0 [] s = refl
no_field_0 (p ∷ ps) s = refl

no_field_past : (ps : List Place) (i : ℕ) (s : List ℕ) → length ps < i → field_of ps i s ≡ []
unfolding field_of
no_field_past [] i s h = refl
no_field_past (p ∷ ps) zero s h = refl
no_field_past (p ∷ ps) (suc zero) s h = absurd (omega arith)
no_field_past (p ∷ ps) (suc (suc i)) s h = no_field_past ps (suc i) s (omega arith)

pub among_left : (ps qs : List Place) (i : ℕ) (s : List ℕ) → i ≤ length ps → field_of (ps ++ qs) i s ≡ field_of ps i s
unfolding field_of
among_left [] qs zero s h = no_field_0 qs s
among_left [] qs (suc i) s h = absurd (omega arith)
among_left (p ∷ ps) qs zero s h = refl
among_left (p ∷ ps) qs (suc zero) s h = refl
among_left (p ∷ ps) qs (suc (suc i)) s h = among_left ps qs (suc i) s (omega arith)

pub among_right : (ps qs : List Place) (i k : ℕ) (s : List ℕ) → 0 < k → i ≡ length ps + k → field_of (ps ++ qs) i s ≡ field_of qs k s
unfolding field_of
among_right [] qs i k s h e = ap (λ (j : ℕ). field_of qs j s) (omega arith)
among_right (p ∷ ps) qs zero k s h e = absurd (omega arith)
among_right (p ∷ ps) qs (suc zero) k s h e = absurd (omega arith)
among_right (p ∷ ps) qs (suc (suc i)) k s h e = among_right ps qs (suc i) k s h (omega arith)

pub further_on : (n : ℕ) (ps : List Place) (i : ℕ) (s : List ℕ) → field_of (further n ps) i s ≡ field_of ps i (drop n s)
unfolding field_of
further_on n [] i s = refl
further_on n (p ∷ ps) zero s = refl
further_on n (p ∷ ps) (suc zero) s = ap (λ (t : List ℕ). p.share (take p.width t)) (sym (drop-drop p.from n s))
further_on n (p ∷ ps) (suc (suc i)) s = further_on n ps (suc i) s

-- ---- the first wrong field

module _ {A : Type 0} {rule : A → ℕ} {spellings : A → List (List ℕ)} {places : List Place} {s : List ℕ} where
  -- it is one of the fields
  pub wrong_counted : (i : ℕ) → FirstWrong rule spellings places s i → (0 < i) × (i ≤ length places)
  wrong_counted zero f =
      let t = f.before in
      absurd (f.unspelt t.0 t.1 (no_field_0 places s ∙ sym (no_field_0 places t.0)))
  wrong_counted (suc i) f =
      let t = f.before in (
        omega arith,
        told (leb (suc i) (length places))
            (λ y. leb-true _ _ y)
            (λ n.
            let h = leb-false (suc i) (length places) n in
            absurd (f.unspelt t.0 t.1 (no_field_past places (suc i) s h ∙ sym (no_field_past places (suc i) t.0 h)))),
      )

  not_before : {i j : ℕ} → FirstWrong rule spellings places s i → FirstWrong rule spellings places s j → i < j → ⊥
  not_before {i} f g h = let t = g.before in f.unspelt t.0 t.1 (t.2 i h)

  -- there is one
  pub one_first_wrong : {i j : ℕ} → FirstWrong rule spellings places s i → FirstWrong rule spellings places s j → i ≡ j
  one_first_wrong {i} {j} f g =
      told (leb i j)
      (λ y.
      let h = leb-true i j y in
      told (leb j i) (λ z. let k = leb-true j i z in omega arith) (λ n. absurd (not_before f g (leb-false j i n))))
      (λ n. absurd (not_before g f (leb-false i j n)))

  -- and none in a spelling of sendable contents
  pub none_wrong : {i : ℕ} → Spelt rule spellings s → FirstWrong rule spellings places s i → ⊥
  none_wrong k f = f.unspelt s k refl
