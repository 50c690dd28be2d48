-- `capture::hex_value` meets its contract: each arm tells on which side of the three ranges the byte is. Assumes nothing.
use native.Mathlib.Omega.{arith}
use Rattle.laws.proofs.Range.{inside, below, above}
use Rattle.capture.specs.Numbers.{hex_value}
use Rattle.capture.proofs.hex_value.Goals as goal

pub returns-in-48-to-57 : goal.returns-in-48-to-57
unfolding hex_value
returns-in-48-to-57 c = let d = c.args.digit in rw (inside 48 57 d (omega arith) (omega arith))

pub returns-in-65-to-70 : goal.returns-in-65-to-70
unfolding hex_value
returns-in-65-to-70 c =
    let d = c.args.digit in
    rw (above 48 57 d (omega arith) (omega arith), inside 65 70 d (omega arith) (omega arith))

pub returns-in-97-to-102 : goal.returns-in-97-to-102
unfolding hex_value
returns-in-97-to-102 c =
    let d = c.args.digit in
    rw (above 48 57 d (omega arith) (omega arith), above 65 70 d (omega arith) (omega arith), inside 97 102 d (omega arith) (omega arith))

pub returns-in_default : goal.returns-in_default
unfolding hex_value
returns-in_default c =
    let d = c.args.digit in
    rw (below 48 57 d (omega arith), below 65 70 d (omega arith), below 97 102 d (omega arith))

pub returns-in_default-2 : goal.returns-in_default-2
unfolding hex_value
returns-in_default-2 c =
    let d = c.args.digit in
    rw (above 48 57 d (omega arith) (omega arith), below 65 70 d (omega arith), below 97 102 d (omega arith))

pub returns-in_default-3 : goal.returns-in_default-3
unfolding hex_value
returns-in_default-3 c =
    let d = c.args.digit in
    rw (above 48 57 d (omega arith) (omega arith), above 65 70 d (omega arith) (omega arith), below 97 102 d (omega arith))

pub returns-in_default-4 : goal.returns-in_default-4
unfolding hex_value
returns-in_default-4 c =
    let d = c.args.digit in
    rw (above 48 57 d (omega arith) (omega arith), above 65 70 d (omega arith) (omega arith), above 97 102 d (omega arith) (omega arith))
