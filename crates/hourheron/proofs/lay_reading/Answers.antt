-- `hourheron::lay_reading` meets its contract: by the reader that was used. Assumes nothing.
use Rattle.hourheron.specs.Takes.{lay_in, lay_left}
use Rattle.hourheron.proofs.lay_reading.Goals as goal

pub returns-in-Fixed : goal.returns-in-Fixed
unfolding lay_in lay_left
returns-in-Fixed c = rw c.in-Fixed.is c.lay_fixed.ensures

pub returns-in-Record : goal.returns-in-Record
unfolding lay_in lay_left
returns-in-Record c = rw c.in-Record.is c.lay_record.ensures
