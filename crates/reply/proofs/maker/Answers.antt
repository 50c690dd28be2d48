-- `reply::maker` meets its contract: the maker's name beside the source. Assumes nothing.
use Rattle.reply.proofs.Laws.{answered}
use Rattle.reply.proofs.maker.Goals as goal

pub returns : goal.returns
returns c = answered _ _ c.maker_message-message.ensures
