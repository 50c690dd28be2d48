-- What spells one field after the other, and what spells one of several values. Assumes nothing.
use Prim.Native.Nat.{ℕ}
use mathlib.Core.List.{List, [], ◌∷◌, ◌++◌, map}
use mathlib.Core.Logic.{inl, inr}
use mathlib.Core.Path.{◌≡◌, refl, ap, subst}
use Rattle.laws.specs.Member.{◌∈◌}
use Rattle.laws.proofs.MemberLaws.{as_member, map_in, in_map, on_left, on_right, on_either}
use Rattle.codec.specs.Codec.{Codec, spellings, all_spelt, each}

pub each_in : (ss ts : List (List ℕ)) (s t : List ℕ) → s ∈ ss → t ∈ ts → (s ++ t) ∈ each ss ts
each_in [] ts s t h k = absurd h
each_in (r ∷ ss) ts s t (inl e) k =
    let l : List (List ℕ) = map (λ u. r ++ u) ts in
    on_left (s ++ t) l (each ss ts) (as_member l (ap (λ (z : List ℕ). z ++ t) e) (map_in (λ (u : List ℕ). r ++ u) ts t k))
each_in (r ∷ ss) ts s t (inr h) k = on_right (s ++ t) (map (λ u. r ++ u) ts) (each ss ts) (each_in ss ts s t h k)

pub in_each : (ss ts : List (List ℕ)) {u : List ℕ} → u ∈ each ss ts → (s : List ℕ) × (t : List ℕ) × (s ∈ ss) × (t ∈ ts) × (u ≡ s ++ t)
in_each [] ts k = absurd k
in_each (r ∷ ss) ts {u} k =
    on_either u (map (λ t. r ++ t) ts) (each ss ts) k
    (λ h. let m = in_map (λ (t : List ℕ). r ++ t) ts h in (r, m.0, inl refl, m.1, m.2))
    (λ h. let m = in_each ss ts h in (m.0, m.1, inr m.2, m.3, m.4))

module _ {A : Type 0} (c : Codec A) (s : List ℕ) where
  pub all_in : (l : List A) (a : A) → a ∈ l → s ∈ spellings c a → s ∈ all_spelt c l
  all_in [] a h k = absurd h
  all_in (b ∷ l) a (inl e) k = on_left s (spellings c b) (all_spelt c l) (subst (λ (z : A). s ∈ spellings c z) e k)
  all_in (b ∷ l) a (inr h) k = on_right s (spellings c b) (all_spelt c l) (all_in l a h k)

  pub in_all : (l : List A) → s ∈ all_spelt c l → (a : A) × (a ∈ l) × (s ∈ spellings c a)
  in_all [] k = absurd k
  in_all (b ∷ l) k =
      on_either s (spellings c b) (all_spelt c l) k
      (λ h. (b, inl refl, h))
      (λ h. let m = in_all l h in (m.0, inr m.1, m.2))
