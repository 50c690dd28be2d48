-- A place that no CR stands before: no message ends before it, so the search for the end may begin there. Assumes nothing.
use Prim.Native.Nat.{ℕ, zero, suc, ◌+◌, ◌*◌, ◌≤◌}
use mathlib.Core.Bool.{Bool, true}
use mathlib.Core.List.{List, [], ◌∷◌, ◌++◌}
use mathlib.Core.Path.{◌≡◌, refl, sym, ap, ◌∙◌, subst}
use native.Mathlib.Nat.{zero-add}
use native.Mathlib.Numerals.{add-one}
use native.Mathlib.Omega.{arith}
use borrow.Author.Tests.{not-true}
use lib.Dec.{eqb}
use lib.ListN.{length, get_or, take, drop, length-drop}
use lib.Seq.{take-suc, take-nil}
use Rattle.std.specs.List.{prefix_len}
use Rattle.std.specs.Simd.{first_chunks}
use Rattle.laws.specs.Every.{every}
use Rattle.laws.proofs.EveryLaws.{every_head, every_tail}
use Rattle.laws.proofs.Tests.{and_both, and_fails, told, cond_yes, cond_no}
use Rattle.cutter.specs.Cutter.{end_from, lf_before, quiet, BehindQuiet}
use Rattle.cutter.proofs.Laws.{end_later, lf_next}

-- ---- bytes joined

module _ (ok : ℕ → Bool) where
  every_join : (s t : List ℕ) → every ok s ≡ true → every ok t ≡ true → every ok (s ++ t) ≡ true
  unfolding every
  every_join [] t p q = q
  every_join (b ∷ s) t p q = and_both {a = ok b} (every_head ok b s p) (every_join s t (every_tail ok b s p) q)

  every_first : (s t : List ℕ) → every ok (s ++ t) ≡ true → every ok s ≡ true
  unfolding every
  every_first [] t p = refl
  every_first (b ∷ s) t p = and_both {a = ok b} (every_head ok b (s ++ t) p) (every_first s t (every_tail ok b (s ++ t) p))

  every_last : (s t : List ℕ) → every ok (s ++ t) ≡ true → every ok t ≡ true
  every_last [] t p = p
  every_last (b ∷ s) t p = every_last s t (every_tail ok b (s ++ t) p)

take_on : (i n : ℕ) (s : List ℕ) → take (i + n) s ≡ take i s ++ take n (drop i s)
take_on zero n s = ap (λ (k : ℕ). take k s) (zero-add n)
take_on (suc i) n [] = let k : suc i + n ≡ suc (i + n) = omega arith in ap (λ (j : ℕ). take j []) k ∙ sym (take-nil n)
take_on (suc i) n (b ∷ s) = let k : suc i + n ≡ suc (i + n) = omega arith in ap (λ (j : ℕ). take j (b ∷ s)) k ∙ ap (λ (r : List ℕ). b ∷ r) (take_on i n s)

-- a block more
pub quiet_more : (s : List ℕ) (i n : ℕ) → quiet (take i s) ≡ true → quiet (take n (drop i s)) ≡ true → quiet (take (i + n) s) ≡ true
quiet_more s i n p q = ap quiet (take_on i n s) ∙ every_join _ (take i s) (take n (drop i s)) p q

-- ---- the search

pub end_behind : (lf : Bool) (s : List ℕ) (i : ℕ) → BehindQuiet s i → end_from lf 0 s ≡ end_from (lf_before lf s i) i (drop i s)
unfolding lf_before
end_behind lf s zero q = refl
end_behind lf s (suc j) q =
    let fits = q.fits in
    let more : suc j ≤ length s = fits in
    let e : take (suc j) s ≡ take j s ++ get_or s j 0 ∷ [] = take-suc s j 0 more in
    let b = sym (ap quiet e) ∙ q.before in
    let here = not-true (eqb (get_or s j 0) 13) (every_head _ (get_or s j 0) [] (every_last _ (take j s) (get_or s j 0 ∷ []) b)) in
    end_behind lf s j (record { fits = omega arith; before = every_first _ (take j s) (get_or s j 0 ∷ []) b })
    ∙ end_later (lf_before lf s j) s j more (sym (and_fails (lf_before lf s j) here))
    ∙ ap (λ (x : Bool). end_from x (j + 1) (drop (j + 1) s)) (sym (lf_next lf s j))
    ∙ ap (λ (k : ℕ). end_from (lf_before lf s k) k (drop k s)) (add-one j)

-- so many blocks in front
pub quiet_front : (s : List ℕ) (n : ℕ) → n * 8 ≤ length s → BehindQuiet s (prefix_len quiet (first_chunks 8 n s) * 8)
unfolding every
quiet_front s zero fits = record { fits = omega arith; before = refl }
quiet_front s (suc n) fits =
    let more : n * 8 ≤ length (drop 8 s) = omega (arith, length-drop 8 s) in
    told (quiet (take 8 s))
    (λ h.
    let rest = quiet_front (drop 8 s) n more in
    let m = prefix_len quiet (first_chunks 8 n (drop 8 s)) in
    let e : 8 + m * 8 ≡ (1 + m) * 8 = omega arith in
    let k : prefix_len quiet (first_chunks 8 (suc n) s) ≡ 1 + m = cond_yes _ _ h in
    let low : m * 8 ≤ length (drop 8 s) = rest.fits in
    subst (λ (j : ℕ). BehindQuiet s (j * 8)) (sym k)
    (record { fits = omega (arith, length-drop 8 s); before = ap (λ (i : ℕ). quiet (take i s)) (sym e) ∙ quiet_more s 8 (m * 8) h rest.before }))
    (λ h.
    let k : prefix_len quiet (first_chunks 8 (suc n) s) ≡ 0 = cond_no _ _ h in
    subst (λ (j : ℕ). BehindQuiet s (j * 8)) (sym k) (record { fits = omega arith; before = refl }))
