-- `Port::receive` meets its contract: 16 for the port or the line, then the carriage return, else the byte joins. Assumes nothing.
use native.Mathlib.Omega.{arith}
use Rattle.std.proofs.lemmas.Grind.{common_steps}
use Rattle.port.specs.Port.{receive_of}
use Rattle.port.proofs.Port.receive.Goals as goal

pub returns-then-not-is_valid : goal.returns-then-not-is_valid
unfolding receive_of
returns-then-not-is_valid c = grind (arith, common_steps)

pub returns-then-ends : goal.returns-then-ends
unfolding receive_of
returns-then-ends c = grind (arith, common_steps)

pub returns : goal.returns
unfolding receive_of
returns c = grind (arith, common_steps)
