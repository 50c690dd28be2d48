-- `line::after_w` meets its contract: each arm tells on which side of the digits its byte is. Assumes nothing.
use native.Mathlib.Omega.{arith}
use Rattle.laws.proofs.Range.{inside, below, above}
use Rattle.line.specs.Command.{after_w}
use Rattle.line.proofs.after_w.Goals as goal

pub returns-in-48-to-57-c : goal.returns-in-48-to-57-c
unfolding after_w
returns-in-48-to-57-c c =
    let a = c.args in
    rw (inside 48 57 a.b (omega arith) (omega arith), inside 48 57 a.c (omega arith) (omega arith)) c.film_of.ensures

pub returns-in_default-c : goal.returns-in_default-c
unfolding after_w
returns-in_default-c c =
    let a = c.args in
    rw (inside 48 57 a.b (omega arith) (omega arith), below 48 57 a.c (omega arith))

pub returns-in_default-c-2 : goal.returns-in_default-c-2
unfolding after_w
returns-in_default-c-2 c =
    let a = c.args in
    rw (inside 48 57 a.b (omega arith) (omega arith), above 48 57 a.c (omega arith) (omega arith))

pub returns-in_default : goal.returns-in_default
unfolding after_w
returns-in_default c = rw (below 48 57 c.args.b (omega arith))

pub returns-in_default-2 : goal.returns-in_default-2
unfolding after_w
returns-in_default-2 c = rw (above 48 57 c.args.b (omega arith) (omega arith))
