-- `Line::ends` meets its contract: the test is the definition's. Assumes nothing.
use mathlib.Core.Path.{refl}
use Rattle.line.specs.Line.{ends}
use Rattle.line.proofs.Line.ends.Goals as goal

pub returns : goal.returns
unfolding ends
returns c = refl
