-- `line::film_of` meets its contract: the arm is the test of `film_of`. Assumes nothing.
use native.Mathlib.Omega.{arith}
use borrow.Author.Tests.{le-leb, lt-leb}
use Rattle.line.specs.Command.{film_of}
use Rattle.line.proofs.film_of.Goals as goal

pub returns-in-0-to-31 : goal.returns-in-0-to-31
unfolding film_of
returns-in-0-to-31 c = rw (le-leb c.args.n 31 (omega arith))

pub returns-in_default : goal.returns-in_default
unfolding film_of
returns-in_default c = rw (lt-leb c.args.n 31 (omega arith))
