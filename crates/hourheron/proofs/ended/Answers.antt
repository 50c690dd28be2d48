-- `hourheron::ended` meets its contract: the cutter for what follows is a fresh one. Assumes nothing.
use mathlib.Core.Bool.{true}
use mathlib.Core.Path.{ap}
use Rattle.cutter.specs.declared.Cutter.{Cutter}
use Rattle.hourheron.specs.Cuts.{cut_with}
use Rattle.hourheron.proofs.ended.Goals as goal

pub returns : goal.returns
returns c = let a = c.args in ap (λ (x : Cutter). cut_with a.answer a.used true x) c.fresh.ensures
