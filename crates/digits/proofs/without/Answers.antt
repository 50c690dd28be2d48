-- `digits::without` meets its contract: where the difference wrapped, the part did not fit. Assumes nothing.
use Rattle.std.proofs.Common.{arith}
use Rattle.digits.proofs.Powers.{fitted, unfitted}
use Rattle.digits.proofs.without.Goals as goal

pub returns-then-rest-lt-WRAPPED : goal.returns-then-rest-lt-WRAPPED
returns-then-rest-lt-WRAPPED c =
    let s = c.before.before in
    fitted _ _ _ s.requires.0 s.requires.1 c.wrapping_sub_u32-rest.ensures.value c.if-rest-lt-WRAPPED.true

pub returns-else-rest-lt-WRAPPED : goal.returns-else-rest-lt-WRAPPED
returns-else-rest-lt-WRAPPED c =
    let s = c.before.before in
    unfitted _ _ _ s.requires.0 s.requires.1 c.wrapping_sub_u32-rest.ensures.value c.if-rest-lt-WRAPPED.false (omega arith)
