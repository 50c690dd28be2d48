-- What stands in a list made of others. Assumes nothing.
use mathlib.Core.List.{List, [], ◌∷◌, ◌++◌, map}
use mathlib.Core.Logic.{inl, inr}
use mathlib.Core.Path.{◌≡◌, refl, ap, ◌∙◌}
use Rattle.laws.specs.Member.{◌∈◌}

-- the same by another name
pub as_member : {A : Type 0} {x y : A} (l : List A) → x ≡ y → y ∈ l → x ∈ l
as_member [] e k = absurd k
as_member (z ∷ l) e (inl k) = inl (e ∙ k)
as_member (z ∷ l) e (inr k) = inr (as_member l e k)

pub the_only : {A : Type 0} {x y : A} → x ∈ (y ∷ []) → x ≡ y
the_only (inl e) = e
the_only (inr k) = absurd k

module _ {A B : Type 0} (f : A → B) where
  pub map_in : (l : List A) (y : A) → y ∈ l → f y ∈ map f l
  map_in [] y k = absurd k
  map_in (z ∷ l) y (inl e) = inl (ap f e)
  map_in (z ∷ l) y (inr k) = inr (map_in l y k)

  pub in_map : {x : B} (l : List A) → x ∈ map f l → (y : A) × (y ∈ l) × (x ≡ f y)
  in_map [] k = absurd k
  in_map (z ∷ l) (inl e) = (z, inl refl, e)
  in_map (z ∷ l) (inr k) = let r = in_map l k in (r.0, inr r.1, r.2)

module _ {A : Type 0} (x : A) where
  pub on_left : (l m : List A) → x ∈ l → x ∈ (l ++ m)
  on_left [] m k = absurd k
  on_left (y ∷ l) m (inl e) = inl e
  on_left (y ∷ l) m (inr k) = inr (on_left l m k)

  pub on_right : (l m : List A) → x ∈ m → x ∈ (l ++ m)
  on_right [] m k = k
  on_right (y ∷ l) m k = inr (on_right l m k)

  pub on_either : {C : Type 0} (l m : List A) → x ∈ (l ++ m) → (x ∈ l → C) → (x ∈ m → C) → C
  on_either [] m k f g = g k
  on_either (y ∷ l) m (inl e) f g = f (inl e)
  on_either (y ∷ l) m (inr k) f g = on_either l m k (λ h. f (inr h)) g
