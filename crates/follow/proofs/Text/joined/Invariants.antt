use mathlib.Core.Path.{◌≡◌}
use lib.ListN.{drop}
use Rattle.follow.specs.Follow.{joined_text}
use Rattle.follow.proofs.Text.joined.Given as goal

abbrev pub invariant-loop-b : goal.invariant-loop-b
invariant-loop-b l = joined_text l.initial.text l.part ≡ joined_text l.text (drop l.b-index l.part)
