-- Which port a number names, and how a statement of every number, of a known one or of the unknown ones comes from its cases. Assumes nothing.
use Prim.Native.Nat.{ℕ}
use mathlib.Core.Logic.{◌↔◌}
use mathlib.Core.Path.{◌≡◌, refl, sym, ap, subst, ◌∙◌}
use borrow.Author.Tests.{eqb-true, eqb-false, ne_eqb}
use lib.Dec.{eqb}
use Rattle.std.specs.Prelude.{Option, None, Some}
use Rattle.laws.proofs.Tests.{cond_no, told, never}
use Rattle.connectors.specs.declared.Side.{Side}
use Rattle.connectors.specs.declared.Side.TheVariants.{Camera, External}
use Rattle.connectors.specs.Connectors.{side_of}
use Rattle.connectors.specs.Promises.{Unknown, Named}

side_0 : {n : ℕ} → n ≡ 0 → side_of n ≡ Some Camera
unfolding side_of
side_0 e = ap side_of e

side_1 : {n : ℕ} → n ≡ 1 → side_of n ≡ Some External
unfolding side_of
side_1 e = ap side_of e

side_none : {n : ℕ} → Unknown n → side_of n ≡ None
unfolding side_of
side_none {n} u = cond_no _ _ (ne_eqb n 0 u.0) ∙ cond_no _ _ (ne_eqb n 1 u.1)

-- a number is 0, 1 or unknown
which : {C : Type 0} (n : ℕ) → (n ≡ 0 → C) → (n ≡ 1 → C) → (Unknown n → C) → C
which n f g h =
    told (eqb n 0) (λ y. f (eqb-true n 0 y)) (λ a. told (eqb n 1) (λ y. g (eqb-true n 1 y)) (λ b. h (eqb-false n 0 a, eqb-false n 1 b)))

pub named : Named
named = record {
  camera = λ n. (λ e. which n (λ z. z) (λ z. let f = side_1 z in never cc) (λ u. let f = side_none u in never cc), side_0);
  external = λ n. (λ e. which n (λ z. let f = side_0 z in never cc) (λ z. z) (λ u. let f = side_none u in never cc), side_1);
  nowhere = λ n. (λ e. which n (λ z. let f = side_0 z in never cc) (λ z. let f = side_1 z in never cc) (λ u. u), side_none);
}

module _ (P : Option Side → Type 0) where
  -- of a port that a number names
  pub at_side : {m : Option Side} {a : Side} → m ≡ Some a → P (Some a) → P m
  at_side e p = subst P (sym e) p

  -- of each port, and where there is none
  pub each : ((a : Side) → P (Some a)) → P None → (m : Option Side) → P m
  each f g (Some a) = f a
  each f g None = g

  -- of an unknown number
  pub unknown : P None → (n : ℕ) → Unknown n → P (side_of n)
  unknown p n u = subst P (sym (side_none u)) p

  -- of no port, so of the unknown numbers alone
  pub unknown_only : ((a : Side) → P (Some a) → ⊥) → P None → (n : ℕ) → P (side_of n) ↔ Unknown n
  unknown_only f p n = (λ q. (named.nowhere n).0 (nowhere (side_of n) q), unknown p n)
    where
      nowhere : (m : Option Side) → P m → m ≡ None
      nowhere (Some a) q = absurd (f a q)
      nowhere None q = refl
