-- `cutter::is_quiet` meets its contract: what was seen and what is left have the whole's answer. Assumes nothing.
use mathlib.Core.Path.{refl, sym, ◌∙◌}
use native.Mathlib.Numerals.{add-one}
use Rattle.laws.proofs.EveryLaws.{every_next, every_seen}
use Rattle.cutter.proofs.is_quiet.Goals as goal

pub loop-b-init : goal.loop-b-init
loop-b-init c = refl

pub loop-b-preserved : goal.loop-b-preserved
loop-b-preserved c = let l = c.loop-b in rw add-one (l.invariant ∙ every_next _ _ l.b-index l.all c.loop-b-test.true)

pub returns : goal.returns
returns c = let l = c.loop-b in sym (l.invariant ∙ every_seen _ _ l.b-index l.all c.loop-b-test.false)
