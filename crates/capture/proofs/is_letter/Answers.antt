-- `capture::is_letter` meets its contract. Assumes nothing.
use native.Mathlib.Omega.{arith}
use Rattle.laws.specs.Within.{within}
use Rattle.std.proofs.lemmas.Grind.{common_steps}
use Rattle.capture.specs.Capture.{is_letter}
use Rattle.capture.proofs.is_letter.Goals as goal

pub returns : goal.returns
unfolding is_letter within
returns c = grind (arith, common_steps)
