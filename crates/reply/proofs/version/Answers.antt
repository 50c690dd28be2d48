-- `reply::version` meets its contract: the version beside the source. Assumes nothing.
use Rattle.reply.proofs.Laws.{answered}
use Rattle.reply.proofs.version.Goals as goal

pub returns : goal.returns
returns c = answered _ _ c.version_message-message.ensures
