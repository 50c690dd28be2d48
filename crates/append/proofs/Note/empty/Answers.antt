-- `append::Note::empty` meets its contract: the zeros written out are `zeros`. Assumes nothing.
use mathlib.Core.Path.{refl}
use Rattle.append.specs.Append.{zeros}
use Rattle.append.proofs.Note.empty.Goals as goal

pub returns : goal.returns
unfolding zeros
returns c = refl
