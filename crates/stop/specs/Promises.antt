-- Document 01's sentences on the ring stop, apart from how it is tested and written. Statements only: proofs/Promises.antt proves each.
use Rattle.std.specs.Prelude.{ℕ, ◌+◌, ◌*◌, ◌≤◌, true, [], ◌∷◌, ◌↔◌, ◌⊎◌, ◌≡◌}
use Rattle.stop.specs.Stop.{stop_ok, stop_text}

pub record Promised : Type 0 where
  -- "0..99, or a multiple of 10 in 100..250"
  pub range : (s : ℕ) → (stop_ok s ≡ true) ↔ ((s ≤ 99) ⊎ ((k : ℕ) × (s ≡ 10 * k) × (10 ≤ k) × (k ≤ 25)))
  -- "below 100, digit, point, digit (5.6)"
  pub below_100 : (a b : ℕ) → a ≤ 9 → b ≤ 9 → stop_text (10 * a + b) ≡ (48 + a) ∷ 46 ∷ (48 + b) ∷ []
  -- "From 100, two digits and a point (11.)"
  pub from_100 : (a b : ℕ) → 1 ≤ a → a ≤ 9 → b ≤ 9 → stop_text (100 * a + 10 * b) ≡ (48 + a) ∷ (48 + b) ∷ 46 ∷ []
