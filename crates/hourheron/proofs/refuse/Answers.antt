-- `hourheron::refuse` meets its contract: the number and the value of the paper. Assumes nothing.
use Rattle.hourheron.proofs.refuse.Goals as goal

pub returns : goal.returns
returns c = rw (c.number_of.ensures, c.value_of.ensures)
