-- `state::valid_modes` meets its contract. Assumes nothing.
use mathlib.Core.Path.{refl}
use Rattle.state.specs.State.{valid_modes}
use Rattle.state.proofs.valid_modes.Goals as goal

pub returns : goal.returns
unfolding valid_modes
returns c = refl
