use Prim.Native.Nat.{◌≤◌, ◌-◌}
use mathlib.Core.Path.{◌≡◌}
use lib.ListN.{length, drop}
use Rattle.capture.specs.Words.{behind}
use Rattle.capture.proofs.word_start.Given as goal

abbrev pub invariant-loop : goal.invariant-loop
invariant-loop l = (l.at ≤ length l.line) × (l.counter ≤ l.k) × (behind l.k l.line ≡ behind (l.k - l.counter) (drop l.at l.line))
