-- `reply::silent` meets its contract: a buffer of zeros is the message of no bytes. Assumes nothing.
use mathlib.Core.Path.{refl}
use Rattle.laws.specs.Over.{over}
use Rattle.state.specs.State.{zeros}
use Rattle.rules.specs.Does as table
use Rattle.reply.proofs.silent.Goals as goal

pub returns : goal.returns
unfolding over zeros table.silent
returns c = refl
