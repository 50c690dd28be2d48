-- `reply::fixed_data` meets its contract: the fixed data beside the source. Assumes nothing.
use Rattle.reply.proofs.Laws.{answered}
use Rattle.reply.proofs.fixed_data.Goals as goal

pub returns : goal.returns
returns c = answered _ _ c.fixed_message-message.ensures
