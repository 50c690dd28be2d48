-- `port::choose` meets its contract: rules 1 to 4, in this order. Assumes nothing.
use native.Mathlib.Omega.{arith}
use Rattle.std.proofs.lemmas.Grind.{common_steps}
use Rattle.port.specs.Port.{choose_of}
use Rattle.port.proofs.choose.Goals as goal

pub returns-then-eq : goal.returns-then-eq
unfolding choose_of
returns-then-eq c = grind (arith, common_steps)

pub returns-in-Some : goal.returns-in-Some
unfolding choose_of
returns-in-Some c = grind (arith, common_steps)

pub returns-in-None : goal.returns-in-None
unfolding choose_of
returns-in-None c = grind (arith, common_steps)
