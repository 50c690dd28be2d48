-- `hourheron::handed` meets its contract: what was written becomes an answer, the rest is handed on. Assumes nothing.
use mathlib.Core.Path.{ap}
use Rattle.hourheron.specs.Cuts.{cut_with}
use Rattle.hourheron.specs.declared.Answer.{Answer}
use Rattle.hourheron.proofs.handed.Goals as goal

pub returns : goal.returns
returns c = let t = c.args.cut in ap (λ (x : Answer). cut_with x t.used t.ended t.cutter) c.answer_of-answer.ensures
