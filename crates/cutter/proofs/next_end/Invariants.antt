use mathlib.Core.Path.{◌≡◌}
use lib.ListN.{drop}
use Rattle.cutter.specs.Cutter.{end_from, lf_before}
use Rattle.cutter.proofs.next_end.Given as goal

abbrev pub invariant-loop-i : goal.invariant-loop-i
invariant-loop-i l = end_from l.lf 0 l.stream ≡ end_from (lf_before l.lf l.stream l.i) l.i (drop l.i l.stream)
