-- A promise that leaves one answer and one content of lent memory.
use Rattle.std.specs.Prelude.{◌≡◌}

-- the answer is this one, and the lent memory is left so
pub record Gives {R M : Type 0} (answer : R) (memory : M) (r : R) (after : M) : Type 0 where
  pub answers : r ≡ answer
  pub leaves : after ≡ memory
