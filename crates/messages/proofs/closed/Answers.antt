-- `messages::closed` meets its contract: the ending is written behind the body, and counted. Assumes nothing.
use native.Mathlib.Omega.{arith}
use Rattle.frame.proofs.Exactly.{ending_short}
use Rattle.messages.proofs.Laws.{ended}
use Rattle.messages.proofs.closed.Goals as goal

pub overflow_add-result : goal.overflow_add-result
overflow_add-result c = omega (arith, ending_short c.args.checksum, c.ending_width.ensures)

pub returns : goal.returns
returns c =
    let a = c.args in
    ended a.bytes a.n a.checksum c.put_ending.ensures c.ending_width.ensures
