use Rattle.std.proofs.Common.{◌+◌, ◌*◌}
use Rattle.digits.proofs.FromTheEnd.{Written}
use Rattle.divided.proofs.put_pairs.Given as goal

abbrev pub invariant-loop-pair : goal.invariant-loop-pair
invariant-loop-pair l = Written 10 48 l.initial.out l.at l.width l.n l.out (l.odd + 2 * l.pair) l.m
