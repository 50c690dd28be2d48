-- `Port::is_valid` meets its contract: the message and the line that waits, then the source. Assumes nothing.
use native.Mathlib.Omega.{arith}
use Rattle.std.proofs.lemmas.Grind.{common_steps}
use Rattle.port.specs.Port.{valid_port}
use Rattle.port.proofs.Port.is_valid.Goals as goal

pub returns-then-not-valid_message-may_wait : goal.returns-then-not-valid_message-may_wait
unfolding valid_port
returns-then-not-valid_message-may_wait c = grind (arith, common_steps)

pub returns : goal.returns
unfolding valid_port
returns c = grind (arith, common_steps)
