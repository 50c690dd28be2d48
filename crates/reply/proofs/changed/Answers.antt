-- `reply::changed` meets its contract: ! beside the source after it. Assumes nothing.
use Rattle.reply.proofs.Laws.{answered}
use Rattle.reply.proofs.changed.Goals as goal

pub returns : goal.returns
returns c = answered _ _ c.letter_message-message.ensures
