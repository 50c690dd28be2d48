-- `hourheron::is_opening` meets its contract, case by case. Assumes nothing.
use native.Mathlib.Omega.{arith}
use Rattle.std.proofs.lemmas.Grind.{common_steps}
use Rattle.recorder.specs.Recorder.{is_opening}
use Rattle.hourheron.proofs.is_opening.Goals as goal

pub returns-in-Ok-Some-Fixed : goal.returns-in-Ok-Some-Fixed
unfolding is_opening
returns-in-Ok-Some-Fixed c = grind (arith, common_steps)

pub returns-in_default : goal.returns-in_default
unfolding is_opening
returns-in_default c = grind (arith, common_steps)

pub returns-in_default-2 : goal.returns-in_default-2
unfolding is_opening
returns-in_default-2 c = grind (arith, common_steps)

pub returns-in_default-3 : goal.returns-in_default-3
unfolding is_opening
returns-in_default-3 c = grind (arith, common_steps)
