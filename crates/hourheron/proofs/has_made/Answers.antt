-- `hourheron::has_made` meets its contract, case by case. Assumes nothing.
use native.Mathlib.Omega.{arith}
use Rattle.std.proofs.lemmas.Grind.{common_steps}
use Rattle.recorder.specs.Recorder.{has_made}
use Rattle.hourheron.proofs.has_made.Goals as goal

pub returns-in-Ok-Some : goal.returns-in-Ok-Some
unfolding has_made
returns-in-Ok-Some c = grind (arith, common_steps)

pub returns-in_default : goal.returns-in_default
unfolding has_made
returns-in_default c = grind (arith, common_steps)

pub returns-in_default-2 : goal.returns-in_default-2
unfolding has_made
returns-in_default-2 c = grind (arith, common_steps)
