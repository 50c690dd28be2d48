-- `hourheron::handed_out` meets its contract: what was written becomes an answer, the recorder is handed on. Assumes nothing.
use mathlib.Core.Path.{ap}
use Rattle.hourheron.specs.declared.Answer.{Answer}
use Rattle.hourheron.proofs.handed_out.Goals as goal

pub returns : goal.returns
returns c =
    let s = c.args.sending in
    ap (λ (x : Answer). record { number = x.number; value = x.value; recorder = s.recorder }) c.answer_of-answer.ensures
