-- `reply::record_message` meets its contract: the record in the form that is sent. Assumes nothing.
use Rattle.rules.specs.Does.{record_message}
use Rattle.reply.proofs.record_message.Goals as goal

pub returns : goal.returns
unfolding record_message
returns c = c.record_in.ensures
