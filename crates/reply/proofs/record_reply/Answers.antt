-- `reply::record_reply` meets its contract: the record beside the source. Assumes nothing.
use Rattle.reply.proofs.Laws.{answered}
use Rattle.reply.proofs.record_reply.Goals as goal

pub returns : goal.returns
returns c = answered _ _ c.record_in-message.ensures
