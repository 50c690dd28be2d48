-- `printed::width_of` meets its contract: each arm is a test of `width_of`. Assumes nothing.
use native.Mathlib.Omega.{arith}
use borrow.Author.Tests.{lt-ltb, le-ltb}
use Rattle.printed.specs.Printed.{width_of}
use Rattle.printed.proofs.width_of.Goals as goal

pub returns-in-0-to-9 : goal.returns-in-0-to-9
unfolding width_of
returns-in-0-to-9 c = let n = c.args.n in rw (lt-ltb n 10 (omega arith))

pub returns-in-10-to-99 : goal.returns-in-10-to-99
unfolding width_of
returns-in-10-to-99 c = let n = c.args.n in rw (le-ltb n 10 (omega arith), lt-ltb n 100 (omega arith))

pub returns-in-100-to-999 : goal.returns-in-100-to-999
unfolding width_of
returns-in-100-to-999 c =
    let n = c.args.n in
    rw (le-ltb n 10 (omega arith), le-ltb n 100 (omega arith), lt-ltb n 1000 (omega arith))

pub returns-in-1000-to-9999 : goal.returns-in-1000-to-9999
unfolding width_of
returns-in-1000-to-9999 c =
    let n = c.args.n in
    rw (le-ltb n 10 (omega arith), le-ltb n 100 (omega arith), le-ltb n 1000 (omega arith), lt-ltb n 10000 (omega arith))

pub returns-in-10000-to-99999 : goal.returns-in-10000-to-99999
unfolding width_of
returns-in-10000-to-99999 c =
    let n = c.args.n in
    rw (le-ltb n 10 (omega arith), le-ltb n 100 (omega arith), le-ltb n 1000 (omega arith), le-ltb n 10000 (omega arith), lt-ltb n 100000 (omega arith))

pub returns-in_default : goal.returns-in_default
unfolding width_of
returns-in_default c =
    let n = c.args.n in
    rw (le-ltb n 10 (omega arith), le-ltb n 100 (omega arith), le-ltb n 1000 (omega arith), le-ltb n 10000 (omega arith), le-ltb n 100000 (omega arith))
