-- `note::is_note` meets its contract: what was seen and what is left have the whole's answer. Assumes nothing.
use Rattle.std.proofs.Common.{sym, ◌∙◌, add-one}
use Rattle.laws.proofs.EveryLaws.{every_next, every_seen}
use Rattle.note.proofs.is_note.Goals as goal

pub loop-byte-preserved : goal.loop-byte-preserved
loop-byte-preserved c = rw add-one (c.loop-byte.invariant ∙ every_next _ _ _ c.loop-byte.all c.loop-byte-test.true)

pub returns : goal.returns
returns c = sym (c.loop-byte.invariant ∙ every_seen _ _ _ _ c.loop-byte-test.false)
