use Rattle.std.proofs.Common.{◌≡◌, ◌+◌, ◌-◌, ◌≤◌, length}
use Rattle.laws.specs.Lowest.{lowest_first}
use Rattle.laws.specs.Over.{over}
use Rattle.layout.proofs.put_number.Given as goal

abbrev pub invariant-loop-i : goal.invariant-loop-i
invariant-loop-i l =
    (l.at + l.width ≤ length l.out) × (over l.out (l.at + l.i) (lowest_first (l.width - l.i) l.m) ≡ over l.initial.out l.at (lowest_first l.width l.n))
