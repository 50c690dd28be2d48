use Prim.Native.Nat.{ℕ, ◌+◌}
use mathlib.Core.List.{List}
use mathlib.Core.Path.{◌≡◌}
use lib.ListN.{length, drop}
use Rattle.cutter.specs.Cutter.{cutter_length, held_from}
use Rattle.cutter.specs.declared.Cutter.{Cutter}
use Rattle.cutter.proofs.Cutter.held.Given as goal

abbrev pub kept : List ℕ → ℕ → Cutter
kept s n = record { bytes = s; len = n }

abbrev pub invariant-loop-i : goal.invariant-loop-i
invariant-loop-i l =
    (length l.bytes ≡ cutter_length) × (held_from (kept l.initial.bytes l.at) l.part ≡ held_from (kept l.bytes (l.at + l.i)) (drop l.i l.part))
