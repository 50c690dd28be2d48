-- `packed_bytes::sign_in` meets its contract: minus where the bit is set and the size is not zero. Assumes nothing.
use mathlib.Core.Path.{sym}
use Rattle.laws.proofs.Tests.{cond_yes, cond_no}
use Rattle.packed_bytes.proofs.Laws.{sign_is}
use Rattle.packed_bytes.proofs.sign_in.Goals as goal

pub returns-then-code : goal.returns-then-code
returns-then-code c = sign_is c.args.code (sym (cond_yes 45 43 c.if-code.true))

pub returns-else-code : goal.returns-else-code
returns-else-code c = sign_is c.args.code (sym (cond_no 45 43 c.if-code.false))
