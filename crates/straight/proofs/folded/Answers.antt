-- `straight::folded` meets its contract: each line halves what is left. Assumes nothing.
use Rattle.straight.proofs.Xor.{folds}
use Rattle.straight.proofs.folded.Goals as goal

pub returns : goal.returns
returns c = folds c.args.w
