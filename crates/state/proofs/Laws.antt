-- A fresh buffer is as long as a message's. Assumes nothing.
use mathlib.Core.Path.{◌≡◌}
use Prim.Native.Nat.{ℕ}
use lib.ListN.{length, length-replicate}
use Rattle.state.specs.State.{message_length, zeros}

pub zeros_long : length zeros ≡ message_length
unfolding zeros
zeros_long = length-replicate {A = ℕ} message_length 0
