-- `cutter::Cutter::fresh` meets its contract: the zeros written out are `zeros`. Assumes nothing.
use mathlib.Core.Path.{refl}
use Rattle.cutter.specs.Cutter.{zeros}
use Rattle.cutter.proofs.Cutter.fresh.Goals as goal

pub returns : goal.returns
unfolding zeros
returns c = refl
