use Rattle.std.proofs.Common.{◌≡◌, ◌*◌, drop}
use Rattle.laws.specs.Over.{over}
use Rattle.layout.specs.Layout.{four_each}
use Rattle.layout.proofs.put_numbers.Given as goal

abbrev pub invariant-loop-i : goal.invariant-loop-i
invariant-loop-i l = over l.out (4 * l.i) (four_each (drop l.i l.numbers)) ≡ over l.initial.out 0 (four_each l.numbers)
