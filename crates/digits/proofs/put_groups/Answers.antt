-- `digits::put_groups` meets its contract: before each turn the first `left` groups are still to write, and `m` is what they say.
-- Assumes nothing.
use Rattle.std.proofs.Common.{◌+◌, ◌-◌, sym, refl, ◌∙◌, arith, leb-false, leb-true}
use Rattle.digits.proofs.FromTheEnd.{no_room, one, begun, goes_on, ended}
use Rattle.digits.proofs.put_groups.Goals as goal

pub returns-then-not-has_room : goal.returns-then-not-has_room
returns-then-not-has_room c = no_room 64 64 (omega arith) _ _ _ _ (leb-false _ _ (sym c.has_room.ensures ∙ c.if-not-has_room.true))

pub loop-left-init : goal.loop-left-init
loop-left-init c = begun 64 64 (omega arith) _ _ _ _ (leb-true _ _ (sym c.has_room.ensures ∙ c.if-not-has_room.false))

pub loop-left-preserved : goal.loop-left-preserved
loop-left-preserved c =
    let l = c.loop-left in
    let a = c.args in
    let stored = one 64 64 (omega arith) l.out (a.at + (l.left - 1)) l.m _ (omega arith) refl in
    goes_on 64 64 (omega arith) a.out.now a.at a.width a.n _ _ l.left l.m 1 c.loop-left-test.true l.invariant stored

pub returns : goal.returns
returns c = ended 64 64 (omega arith) _ _ _ _ _ c.loop-left.left c.loop-left.m (omega arith) c.loop-left.invariant
