use Rattle.std.proofs.Common.{◌≡◌, ℕ, ◌+◌, ◌-◌, ◌*◌, ◌%◌, ◌^◌, ◌≤◌, min, List}
use Rattle.laws.specs.Over.{over}
use Rattle.digits.specs.Digits.{decimal}
use Rattle.digits.proofs.put_block.Given as goal

-- k digits of n are still to write, and x holds what they say
abbrev pub Left : List ℕ → ℕ → ℕ → ℕ → List ℕ → ℕ → ℕ → Type 0
Left out₀ at width n out x k = (x ≡ 256 * (n % 10 ^ k)) × (over out (at + (width - k)) (decimal k n) ≡ over out₀ at (decimal width n))

abbrev pub invariant-loop-zeros : goal.invariant-loop-zeros
invariant-loop-zeros l = (1 ≤ l.zeros) × Left l.initial.out l.at l.width l.n l.out l.x (min l.zeros l.width)
