use Rattle.digits.proofs.FromTheEnd.{Written}
use Rattle.digits.proofs.put_groups.Given as goal

abbrev pub invariant-loop-left : goal.invariant-loop-left
invariant-loop-left l = Written 64 64 l.initial.out l.at l.width l.n l.out l.left l.m
