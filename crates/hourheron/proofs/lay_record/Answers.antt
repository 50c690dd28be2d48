-- `hourheron::lay_record` meets its contract: refused as the message was, or laid where there is room. Assumes nothing.
use mathlib.Core.Path.{refl}
use Rattle.frame.specs.Message.{then_write, then_left}
use Rattle.hourheron.proofs.lay_record.Goals as goal

pub returns-in-Ok : goal.returns-in-Ok
unfolding then_write then_left
returns-in-Ok c = rw c.in-Ok.is (record { answers = c.answer_room.ensures; leaves = c.put_record.ensures })

pub returns-in-Err : goal.returns-in-Err
unfolding then_write then_left
returns-in-Err c = rw c.in-Err.is (record { answers = c.refuse.ensures; leaves = refl })
