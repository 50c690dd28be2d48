-- A test of every member of a list.
use Rattle.std.specs.Prelude.{ℕ, Bool, true, ◌&&◌, List, [], ◌∷◌}

unfoldable pub every : (ℕ → Bool) → List ℕ → Bool
every ok [] = true
every ok (x ∷ s) = ok x && every ok s
