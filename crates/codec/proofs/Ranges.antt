-- The lowest of a table, row by row: one row has its own, and tables one after the other have the first that is not 0. Assumes nothing.
use Prim.Native.Nat.{ℕ, zero, suc}
use mathlib.Core.Bool.{Bool, true, false}
use mathlib.Core.List.{[], ◌∷◌, ◌++◌}
use mathlib.Core.Logic.{◌≢◌, ◌⊎◌, inl, inr}
use mathlib.Core.Path.{◌≡◌, refl, sym, ◌∙◌}
use native.Mathlib.Omega.{arith}
use Rattle.laws.proofs.Tests.{never}
use Rattle.codec.specs.Codec.{failing, first}
use Rattle.codec.specs.Ranges.{Ranges, AllIn, FirstOut, Lowest}
use Rattle.codec.proofs.Exact.{first_zero, zero_first}

pub row : (i : ℕ) (ok : Bool) → Lowest (failing ok (suc i)) ((suc i, ok) ∷ [])
unfolding failing
row i true = record {
  all_in = (λ e. (refl, tt), λ h. refl);
  first_out = λ j. (λ h. absurd (h.1 (sym h.0)), none);
} where
  none : {j : ℕ} → FirstOut ((suc i, true) ∷ []) j → (0 ≡ j) × (j ≢ 0)
  none (inl h) = never (cc h.0)
  none (inr h) = absurd h.1
row i false = record {
  all_in = (λ e. absurd (omega arith), λ h. never (cc h.0));
  first_out = λ j. (λ h. inl (refl, sym h.0), one);
} where
  one : {j : ℕ} → FirstOut ((suc i, false) ∷ []) j → (suc i ≡ j) × (j ≢ 0)
  one (inl h) = (sym h.1, λ z. let e = sym h.1 ∙ z in absurd (omega arith))
  one (inr h) = never (cc h.0)

-- ---- two tables, one after the other

module _ (ss : Ranges) where
  all_of : (rs : Ranges) → AllIn rs → AllIn ss → AllIn (rs ++ ss)
  all_of [] h k = k
  all_of (r ∷ rs) h k = (h.0, all_of rs h.1 k)

  each_of : (rs : Ranges) → AllIn (rs ++ ss) → AllIn rs × AllIn ss
  each_of [] h = (tt, h)
  each_of (r ∷ rs) h = let k = each_of rs h.1 in ((h.0, k.0), k.1)

  module _ (i : ℕ) where
    in_front : (rs : Ranges) → FirstOut rs i → FirstOut (rs ++ ss) i
    in_front [] x' = elim x' [ ]
    in_front (r ∷ rs) (inl h) = inl h
    in_front (r ∷ rs) (inr h) = inr (h.0, in_front rs h.1)

    behind : (rs : Ranges) → AllIn rs → FirstOut ss i → FirstOut (rs ++ ss) i
    behind [] h k = k
    behind (r ∷ rs) h k = inr (h.0, behind rs h.1 k)

    out_of : (rs : Ranges) → FirstOut (rs ++ ss) i → FirstOut rs i ⊎ (AllIn rs × FirstOut ss i)
    out_of [] h = inr (tt, h)
    out_of (r ∷ rs) (inl h) = inl (inl h)
    out_of (r ∷ rs) (inr h) = next (out_of rs h.1) where
      next : FirstOut rs i ⊎ (AllIn rs × FirstOut ss i) → FirstOut (r ∷ rs) i ⊎ (AllIn (r ∷ rs) × FirstOut ss i)
      next (inl k) = inl (inr (h.0, k))
      next (inr k) = inr ((h.0, k.0), k.1)

module _ {rs ss : Ranges} where
  found : (m n : ℕ) → Lowest m rs → Lowest n ss → (i : ℕ) → first m n ≡ i → i ≢ 0 → FirstOut (rs ++ ss) i
  unfolding first
  found zero n p q i e z = behind ss i rs (p.all_in.0 refl) ((q.first_out i).0 (e, z))
  found (suc m) n p q i e z = in_front ss i rs ((p.first_out i).0 (e, z))

  is_found : (m n : ℕ) → Lowest m rs → Lowest n ss → (i : ℕ) → FirstOut rs i ⊎ (AllIn rs × FirstOut ss i) → (first m n ≡ i) × (i ≢ 0)
  unfolding first
  is_found zero n p q i (inl h) = let k = (p.first_out i).1 h in absurd (k.1 (sym k.0))
  is_found (suc m) n p q i (inl h) = (p.first_out i).1 h
  is_found zero n p q i (inr h) = (q.first_out i).1 h.1
  is_found (suc m) n p q i (inr h) = let z : suc m ≡ 0 = p.all_in.1 h.0 in absurd (omega arith)

  pub rows : {m n : ℕ} → Lowest m rs → Lowest n ss → Lowest (first m n) (rs ++ ss)
  rows {m} {n} p q = record {
    all_in = (
      λ e. let z = first_zero m n e in all_of ss rs (p.all_in.0 z.0) (q.all_in.0 z.1),
      λ h. let k = each_of ss rs h in zero_first m n (p.all_in.1 k.0) (q.all_in.1 k.1),
    );
    first_out = λ i. (λ h. found m n p q i h.0 h.1, λ h. is_found m n p q i (out_of ss i rs h));
  }
