-- `packed_bytes::are_groups` meets its contract: what was seen and what is left have the whole's answer. Assumes nothing.
use Rattle.std.proofs.Common.{sym, ◌∙◌, add-one}
use Rattle.laws.proofs.EveryLaws.{every_next, every_seen}
use Rattle.packed_bytes.proofs.Laws.{group_is}
use Rattle.packed_bytes.proofs.are_groups.Goals as goal

pub loop-byte-preserved : goal.loop-byte-preserved
loop-byte-preserved c =
    let l = c.loop-byte in
    rw (add-one, group_is) (l.invariant ∙ every_next _ _ l.byte-index l.all c.loop-byte-test.true)

pub returns : goal.returns
returns c =
    let l = c.loop-byte in
    sym (l.invariant ∙ every_seen _ _ l.byte-index l.all c.loop-byte-test.false)
