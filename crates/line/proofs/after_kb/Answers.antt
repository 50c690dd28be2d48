-- `line::after_kb` meets its contract: each arm is a side of the range. Assumes nothing.
use native.Mathlib.Omega.{arith}
use Rattle.laws.proofs.Range.{inside, below, above}
use Rattle.line.specs.Command.{after_kb}
use Rattle.line.proofs.after_kb.Goals as goal

pub returns-in-48-to-55 : goal.returns-in-48-to-55
unfolding after_kb
returns-in-48-to-55 c = rw (inside 48 55 c.args.c (omega arith) (omega arith))

pub returns-in_default : goal.returns-in_default
unfolding after_kb
returns-in_default c = rw (below 48 55 c.args.c (omega arith))

pub returns-in_default-2 : goal.returns-in_default-2
unfolding after_kb
returns-in_default-2 c = rw (above 48 55 c.args.c (omega arith) (omega arith))
