-- What the driver's call promises beside its exact answer: statements only.
use Rattle.std.specs.Prelude.{ℕ, ◌≤◌, true, false, List, ◌↔◌, ◌≡◌, length, drop, Err}
use Rattle.refusal.specs.declared.Refusal.{Refusal}
use Rattle.refusal.specs.declared.Refusal.TheVariants as refusal
use Rattle.port.specs.declared.Port.{Port}
use Rattle.port.specs.Port.{valid_port}
use Rattle.fill.specs.Fill.{fill_of, fill_leaves}

pub record Promised : Type 0 where
  -- 16 exactly where the state is none of ours, and no other number
  pub by_case : (p : Port) (n : ℕ) (r : Refusal) → ((fill_of p n).verdict ≡ Err r) ↔ ((valid_port p ≡ false) × (r ≡ refusal.State))
  -- a refusal changes no state and writes no byte
  pub refused_port : (p : Port) (n : ℕ) (r : Refusal) → (fill_of p n).verdict ≡ Err r → (fill_of p n).port ≡ p
  pub refused_bytes : (p : Port) (out : List ℕ) (r : Refusal) → (fill_of p (length out)).verdict ≡ Err r → fill_leaves p out ≡ out
  -- it never counts more than the buffer holds
  pub at_most : (p : Port) (n : ℕ) → (fill_of p n).count ≤ n
  -- "bytes past it stay"
  pub past_stays : (p : Port) (out : List ℕ) → drop (fill_of p (length out)).count (fill_leaves p out) ≡ drop (fill_of p (length out)).count out
  -- "The driver's call with an empty buffer runs no slot and returns 0"
  pub empty : (p : Port) → (fill_of p 0).port ≡ p
  pub none : (p : Port) → (fill_of p 0).count ≡ 0
  -- a valid port stays valid
  pub kept_valid : (p : Port) (n : ℕ) → valid_port p ≡ true → valid_port (fill_of p n).port ≡ true
