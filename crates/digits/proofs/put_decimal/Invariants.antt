use Rattle.digits.proofs.FromTheEnd.{Written}
use Rattle.digits.proofs.put_decimal.Given as goal

abbrev pub invariant-loop-left : goal.invariant-loop-left
invariant-loop-left l = Written 10 48 l.initial.out l.at l.width l.n l.out l.left l.m

abbrev pub decreases-loop-left : goal.decreases-loop-left
decreases-loop-left l = l.left
