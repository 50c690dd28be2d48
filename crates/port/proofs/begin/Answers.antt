-- `port::begin` meets its contract. Assumes nothing.
use Rattle.port.specs.Port.{begun_with}
use Rattle.port.proofs.begin.Goals as goal

pub returns : goal.returns
unfolding begun_with
returns c = c.send_from.ensures
