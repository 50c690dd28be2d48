-- `reply::film` meets its contract: the blur circle beside the source after it. Assumes nothing.
use Rattle.reply.proofs.Laws.{answered}
use Rattle.reply.proofs.film.Goals as goal

pub returns : goal.returns
returns c = answered _ _ c.blur_message-message.ensures
