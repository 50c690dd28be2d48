-- `reply::answer` meets its contract: one byte beside the source. Assumes nothing.
use Rattle.reply.proofs.Laws.{answered}
use Rattle.reply.proofs.answer.Goals as goal

pub returns : goal.returns
returns c = answered _ _ c.letter_message-message.ensures
