use Rattle.std.proofs.Common.{◌≡◌, ◌+◌, ◌*◌, ◌^◌, ◌<◌, ◌≤◌}
use Rattle.digits.proofs.cut.Given as goal

abbrev pub invariant-loop-times : goal.invariant-loop-times
invariant-loop-times l = (10 ^ 7 * l.high + l.low ≡ l.n) × (l.low < 10 ^ 7 * l.times) × (1 ≤ l.times) × (l.times ≤ 430)

abbrev pub decreases-loop-times : goal.decreases-loop-times
decreases-loop-times l = l.times
