-- A table of ranges in the paper's order, and which of its rows is the first out of range: said of the rows, apart from how it is found.
use Rattle.std.specs.Prelude.{ℕ, Bool, true, false, List, [], ◌∷◌, ◌↔◌, ◌≢◌, ◌⊎◌, ◌≡◌}

-- the number of each field or item, and whether it is in its range
abbrev pub Ranges : Type 0
Ranges = List (ℕ × Bool)

-- each of them is in range
abbrev pub AllIn : Ranges → Type 0
AllIn [] = Unit {0}
AllIn (r ∷ rs) = (r.1 ≡ true) × AllIn rs

-- the first that is out of range is i
abbrev pub FirstOut : Ranges → ℕ → Type 0
FirstOut [] i = ⊥
FirstOut (r ∷ rs) i = ((r.1 ≡ false) × (i ≡ r.0)) ⊎ ((r.1 ≡ true) × FirstOut rs i)

-- n is 0 where each is in range, and only there, and is else the first that is out of range
pub record Lowest (n : ℕ) (rs : Ranges) : Type 0 where
  pub all_in : (n ≡ 0) ↔ AllIn rs
  pub first_out : (i : ℕ) → ((n ≡ i) × (i ≢ 0)) ↔ FirstOut rs i

-- a rule that answers so, by its table
abbrev pub LowestBy : {A : Type 0} → (A → ℕ) → (A → Ranges) → Type 0
LowestBy {A} rule table = (a : A) → Lowest (rule a) (table a)
