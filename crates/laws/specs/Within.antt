-- A test for a range of numbers.
use Rattle.std.specs.Prelude.{ℕ, Bool, ◌&&◌, leb}

-- a range, its ends in it
unfoldable pub within : ℕ → ℕ → ℕ → Bool
within low high x = leb low x && leb x high
