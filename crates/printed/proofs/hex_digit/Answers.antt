-- `printed::hex_digit` meets its contract: the arm is the test of `hex_digit`. Assumes nothing.
use native.Mathlib.Omega.{arith}
use borrow.Author.Tests.{lt-ltb, le-ltb}
use Rattle.printed.specs.Printed.{hex_digit}
use Rattle.printed.proofs.hex_digit.Goals as goal

pub returns-in-0-to-9 : goal.returns-in-0-to-9
unfolding hex_digit
returns-in-0-to-9 c = rw (lt-ltb c.args.n 10 (omega arith))

pub returns-in_default : goal.returns-in_default
unfolding hex_digit
returns-in_default c = rw (le-ltb c.args.n 10 (omega arith))
