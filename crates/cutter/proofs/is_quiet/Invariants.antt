use mathlib.Core.Bool.{◌&&◌}
use mathlib.Core.Path.{◌≡◌}
use lib.ListN.{drop}
use Rattle.cutter.specs.Cutter.{quiet}
use Rattle.cutter.proofs.is_quiet.Given as goal

abbrev pub invariant-loop-b : goal.invariant-loop-b
invariant-loop-b l = quiet l.s ≡ (l.all && quiet (drop l.b-index l.s))
