-- `hourheron::answer_room` meets its contract: by its test. Assumes nothing.
use borrow.Author.Tests.{le-leb, lt-leb}
use Rattle.refusal.specs.Answer.{unless}
use Rattle.frame.specs.Message.{room_for}
use Rattle.hourheron.proofs.answer_room.Goals as goal

pub returns-then-room-width : goal.returns-then-room-width
unfolding room_for unless
returns-then-room-width c = rw (lt-leb _ _ c.if-room-width.true) c.refuse.ensures

pub returns : goal.returns
unfolding room_for unless
returns c = rw (le-leb _ _ c.if-room-width.false) c.done.ensures
