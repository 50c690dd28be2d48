-- `capture::bytes_before` meets its contract: the place of the first such byte, or the end. Assumes nothing.
use Prim.Native.Nat.{ℕ, ◌<◌, ◌≤◌}
use mathlib.Core.Path.{◌≡◌}
use native.Mathlib.Omega.{arith}
use lib.ListN.{length, get_or}
use Rattle.std.proofs.lemmas.Grind.{common_steps}
use Rattle.capture.proofs.Words.{before_is}
use Rattle.capture.proofs.bytes_before.Goals as goal

pub returns : goal.returns
returns c =
    let s = c.args.s.now in
    let x = c.args.byte in
    let low : (k : ℕ) → k < c.unwrap_or.result → get_or s k 0 ≡ x → ⊥ = grind (arith, common_steps) in
    let here : c.unwrap_or.result < length s → get_or s c.unwrap_or.result 0 ≡ x = grind (arith, common_steps) in
    let fits : c.unwrap_or.result ≤ length s = grind (arith, common_steps) in
    before_is x s c.unwrap_or.result fits low here
