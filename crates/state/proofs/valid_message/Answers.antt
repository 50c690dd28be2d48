-- `state::valid_message` meets its contract. Assumes nothing.
use mathlib.Core.Path.{refl}
use Rattle.state.specs.State.{valid_message}
use Rattle.state.proofs.valid_message.Goals as goal

pub returns : goal.returns
unfolding valid_message
returns c = refl
