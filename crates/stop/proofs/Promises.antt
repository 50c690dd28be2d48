-- The stop's range and its three characters, by the laws of the two forms. Assumes nothing.
use Prim.Native.Nat.{ℕ, ◌+◌, ◌*◌, ◌/◌, ◌≤◌}
use mathlib.Core.Bool.{true}
use mathlib.Core.List.{[], ◌∷◌}
use mathlib.Core.Logic.{◌⊎◌, inl, inr}
use mathlib.Core.Path.{◌≡◌, ap₂, ◌∙◌}
use native.Mathlib.Omega.{arith}
use borrow.Author.Tests.{ltb-true, ltb-false}
use lib.Dec.{ltb}
use Rattle.laws.proofs.Tests.{told}
use Rattle.digits.specs.Digits.{digits}
use Rattle.stop.specs.Stop.{stop_ok}
use Rattle.stop.specs.Promises.{Promised}
use Rattle.stop.proofs.Exact.{stop_low, stop_ten, stop_high, low_text, high_text}

abbrev In : ℕ → Type 0
In s = (s ≤ 99) ⊎ ((k : ℕ) × (s ≡ 10 * k) × (10 ≤ k) × (k ≤ 25))

in_range_lem : (s : ℕ) → stop_ok s ≡ true → In s
in_range_lem s h =
    told (ltb s 100)
    (λ y. inl (omega (arith, ltb-true s 100 y)))
    (λ n.
    let low = ltb-false s 100 n in
    let p = stop_high s h low in
    inr (s / 10, omega (arith, p.0), omega arith, omega (arith, p.1)))

of_range : (s : ℕ) → In s → stop_ok s ≡ true
of_range s (inl h) = stop_low s (omega arith)
of_range s (inr (k, e, low, top)) = stop_ten s (omega arith) (omega arith)

pub promised : Promised
unfolding digits
promised = record {
  range = λ s. (in_range_lem s, of_range s);
  below_100 = λ a b h k.
      let s = 10 * a + b in
      low_text s (omega arith) ∙ ap₂ (λ (x y : ℕ). x ∷ 46 ∷ y ∷ []) (omega arith) (omega arith);
  from_100 = λ a b l h k.
      let s = 100 * a + 10 * b in
      high_text s (omega arith) ∙ ap₂ (λ (x y : ℕ). x ∷ y ∷ 46 ∷ []) (omega arith) (omega arith);
}
