-- What a host may conclude from a number and the value beside it. Statements only: proofs/Promises.antt proves them.
use Rattle.std.specs.Prelude.{◌≡◌}
use Rattle.refusal.specs.Refusal.{number_of, value_of}
use Rattle.refusal.specs.declared.Refusal.{Refusal}

pub record Numbers : Type 0 where
  -- 0 is done: no refusal has it
  pub not_zero : (x : Refusal) → number_of x ≡ 0 → ⊥
  -- a number and a value tell the refusal
  pub apart : (x y : Refusal) → number_of x ≡ number_of y → value_of x ≡ value_of y → x ≡ y
