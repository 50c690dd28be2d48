-- `fixed::is_blur` meets its contract: what was seen and what is left have the whole's answer. Assumes nothing.
use Rattle.std.proofs.Common.{sym, ◌∙◌, add-one}
use Rattle.laws.proofs.EveryLaws.{every_next, every_seen}
use Rattle.fixed.proofs.is_blur.Goals as goal

pub loop-circle-preserved : goal.loop-circle-preserved
loop-circle-preserved c = rw add-one (c.loop-circle.invariant ∙ every_next _ _ _ c.loop-circle.all c.loop-circle-test.true)

pub returns : goal.returns
returns c = sym (c.loop-circle.invariant ∙ every_seen _ _ _ _ c.loop-circle-test.false)
