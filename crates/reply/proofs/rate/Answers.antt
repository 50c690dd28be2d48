-- `reply::rate` meets its contract: the rate that follows, beside the source after it. Assumes nothing.
use Rattle.rules.specs.Does.{runs}
use Rattle.reply.proofs.Laws.{answered}
use Rattle.reply.proofs.rate.Goals as goal

pub returns : goal.returns
unfolding runs
returns c = answered _ _ c.rate_message-message.ensures
