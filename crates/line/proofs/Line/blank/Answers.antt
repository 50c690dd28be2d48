-- `line::Line::blank` meets its contract: the zeros written out are `zeros`. Assumes nothing.
use mathlib.Core.Path.{refl}
use Rattle.line.specs.Line.{zeros}
use Rattle.line.proofs.Line.blank.Goals as goal

pub returns : goal.returns
unfolding zeros
returns c = refl
