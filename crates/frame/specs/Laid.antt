-- What a call tells that lays a message at the start of lent memory, or refuses: statements only.
use Rattle.std.specs.Prelude.{ℕ, ◌≤◌, ◌<◌, List, ◌++◌, ◌↔◌, ◌⊎◌, ◌≡◌, length, drop, Err, Ok}
use Rattle.refusal.specs.Answer.{Answer}
use Rattle.refusal.specs.declared.Refusal.{Refusal}
use Rattle.refusal.specs.declared.Refusal.TheVariants.{Room}

-- what a call says that answers w and leaves after, of a message of n bytes and of lent memory
pub record Laid (n : ℕ) (message : Answer (List ℕ)) (out : List ℕ) (w : Answer ℕ) (after : List ℕ) : Type 0 where
  -- refused as the message is; 2, with n, only where it is not
  pub refuses : (x : Refusal) → (w ≡ Err x) ↔ ((message ≡ Err x) ⊎ ((x ≡ Room n) × (length out < n) × ((l : List ℕ) × (message ≡ Ok l))))
  -- done exactly where there is a message and room for it: the count is n
  pub does : (k : ℕ) → (w ≡ Ok k) ↔ ((l : List ℕ) × (message ≡ Ok l) × (n ≤ length out) × (k ≡ n))
  -- a refusal writes nothing
  pub refused_same : (x : Refusal) → w ≡ Err x → after ≡ out
  -- done, the message stands at the start, and the bytes past it are unchanged
  pub lays : (l : List ℕ) (k : ℕ) → message ≡ Ok l → w ≡ Ok k → after ≡ l ++ drop n out
