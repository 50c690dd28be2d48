-- `reply::type_name` meets its contract: the name of the type beside the source. Assumes nothing.
use Rattle.reply.proofs.Laws.{answered}
use Rattle.reply.proofs.type_name.Goals as goal

pub returns : goal.returns
returns c = answered _ _ c.type_message-message.ensures
