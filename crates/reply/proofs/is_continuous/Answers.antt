-- `reply::is_continuous` meets its contract. Assumes nothing.
use native.Mathlib.Omega.{arith}
use Rattle.std.proofs.lemmas.Grind.{common_steps}
use Rattle.rules.specs.Does.{is_on}
use Rattle.reply.proofs.is_continuous.Goals as goal

pub returns : goal.returns
unfolding is_on
returns c = grind (arith, common_steps)
