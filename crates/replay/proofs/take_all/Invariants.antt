-- `replay::take_all` is safe and ends: each turn takes some of the input, and the output keeps its length. Assumes nothing.
use Rattle.std.proofs.Common.{length, ◌≡◌}
use Rattle.replay.proofs.take_all.Given as goal

abbrev pub invariant-loop-now : goal.invariant-loop-now
invariant-loop-now g l = length l.out ≡ 65536

abbrev pub decreases-loop-now : goal.decreases-loop-now
decreases-loop-now g l = length l.rest
