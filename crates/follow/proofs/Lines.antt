-- The lines of a text: each up to its LF, the last may lack it. Assumes nothing.
use Prim.Native.Nat.{ℕ, suc, ◌<◌}
use mathlib.Core.Bool.{true, false}
use mathlib.Core.List.{List, [], ◌∷◌, ◌++◌}
use mathlib.Core.Path.{◌≡◌, refl, sym, ap, ◌∙◌}
use native.Mathlib.Omega.{arith}
use borrow.Author.Tests.{eqb-true}
use lib.Dec.{eqb}
use lib.ListN.{length, take}
use Rattle.laws.proofs.Tests.{told, cond_yes, cond_no}
use Rattle.capture.specs.Words.{before}
use Rattle.printed.specs.Printed.{LF}
use Rattle.follow.specs.Replay.{join_first, lines}
use Rattle.follow.specs.Promises.{Unbroken, OfLines}

-- ---- no LF

module _ (b : ℕ) (s : List ℕ) where
  before_at : eqb b LF ≡ true → before LF (b ∷ s) ≡ 0
  unfolding before
  before_at e = cond_yes _ _ e

  before_past : eqb b LF ≡ false → before LF (b ∷ s) ≡ suc (before LF s)
  unfolding before
  before_past e = cond_no _ _ e

  pub not_lf : Unbroken (b ∷ s) → eqb b LF ≡ false
  not_lf h = told (eqb b LF) (λ e. absurd (omega (arith, h, before_at e))) (λ e. e)

  pub unbroken_tail : Unbroken (b ∷ s) → Unbroken s
  unbroken_tail h = omega (arith, h, before_past (not_lf h))

  pub unbroken_cons : eqb b LF ≡ false → Unbroken s → Unbroken (b ∷ s)
  unbroken_cons e h = omega (arith, before_past e, h)

pub unbroken_append : (s t : List ℕ) → Unbroken s → Unbroken t → Unbroken (s ++ t)
unbroken_append [] t h k = k
unbroken_append (b ∷ s) t h k = unbroken_cons b (s ++ t) (not_lf b s h) (unbroken_append s t (unbroken_tail b s h) k)

-- what stands before the first LF
pub unbroken_first : (s : List ℕ) → Unbroken (take (before LF s) s)
unfolding before
unbroken_first [] = refl
unbroken_first (b ∷ s) =
    told (eqb b LF)
    (λ e. ap (λ (n : ℕ). before LF (take n (b ∷ s))) (before_at b s e) ∙ sym (ap (λ (n : ℕ). length (take n (b ∷ s))) (before_at b s e)))
    (λ e.
    ap (λ (n : ℕ). before LF (take n (b ∷ s))) (before_past b s e)
    ∙ unbroken_cons b (take (before LF s) s) e (unbroken_first s)
    ∙ sym (ap (λ (n : ℕ). length (take n (b ∷ s))) (before_past b s e)))

-- and with it
pub with_lf : (s : List ℕ) → before LF s < length s → take (suc (before LF s)) s ≡ take (before LF s) s ++ LF ∷ []
with_lf [] h = absurd (omega arith)
with_lf (b ∷ s) h =
    told (eqb b LF)
    (λ e.
    let z = before_at b s e in
    ap (λ (n : ℕ). take (suc n) (b ∷ s)) z ∙ ap (λ (x : ℕ). x ∷ []) (eqb-true b LF e) ∙ sym (ap (λ (n : ℕ). take n (b ∷ s) ++ LF ∷ []) z))
    (λ e.
    let z = before_past b s e in
    ap (λ (n : ℕ). take (suc n) (b ∷ s)) z
    ∙ ap (λ (x : List ℕ). b ∷ x) (with_lf s (omega arith))
    ∙ sym (ap (λ (n : ℕ). take n (b ∷ s) ++ LF ∷ []) z))

-- ---- lines

lines_past : (b : ℕ) (s : List ℕ) → eqb b LF ≡ false → lines (b ∷ s) ≡ join_first b (lines s)
unfolding lines
lines_past b s e = cond_no _ _ e

pub ended : (l s : List ℕ) → Unbroken l → lines (l ++ LF ∷ s) ≡ l ∷ lines s
unfolding lines
ended [] s h = refl
ended (b ∷ l) s h = lines_past b (l ++ LF ∷ s) (not_lf b l h) ∙ ap (join_first b) (ended l s (unbroken_tail b l h))

pub last : (b : ℕ) (l : List ℕ) → Unbroken (b ∷ l) → lines (b ∷ l) ≡ (b ∷ l) ∷ []
unfolding lines
last b [] h = lines_past b [] (not_lf b [] h)
last b (c ∷ l) h = lines_past b (c ∷ l) (not_lf b (c ∷ l) h) ∙ ap (join_first b) (last c l (unbroken_tail b (c ∷ l) h))

pub of_lines : OfLines
unfolding lines
of_lines = record { none = refl; ended = ended; last = last }
