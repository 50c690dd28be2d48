use Prim.Native.Nat.{ℕ, ◌-◌}
use mathlib.Core.List.{List}
use lib.ListN.{length}
use Rattle.port.specs.declared.Port.{Port}
use Rattle.fill.proofs.Laws.{At, Head}
use Rattle.fill.proofs.fill.Given as goal

-- of whatever buffer and port the slots before the loop were: so it is of those of the call
abbrev pub invariant-loop-i : goal.invariant-loop-i
invariant-loop-i l = (b : List ℕ) (p : Port) → At b p l.initial.out l.initial.q l.initial.i → Head b p l.out l.q l.i

abbrev pub decreases-loop-i : goal.decreases-loop-i
decreases-loop-i l = length l.out - l.i
