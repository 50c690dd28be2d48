-- `frame::sum_of` meets its contract. Assumes nothing.
use mathlib.Core.Path.{ap}
use Prim.Native.Nat.{ℕ, ◌+◌, ◌/◌, ◌%◌}
use Rattle.frame.specs.Frame.{sum_of}
use Rattle.frame.proofs.sum_of.Goals as goal

pub returns : goal.returns
unfolding sum_of
returns c = ap (λ (x : ℕ). record { high = 64 + x / 16; low = 64 + x % 16 }) c.xor_of-x.ensures
