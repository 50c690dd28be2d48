-- `hourheron::heron_cut_message_value` meets its contract: what the cutter answered is handed on. Assumes nothing.
use mathlib.Core.Path.{ap, ◌∙◌}
use Rattle.cutter.specs.Cutter.{cut_answer}
use Rattle.hourheron.specs.Cuts.{cut_to}
use Rattle.hourheron.proofs.heron_cut_message_value.Goals as goal

pub returns : goal.returns
unfolding cut_answer
returns c =
    let e = c.cut.ensures in
    record { answers = c.handed.ensures ∙ ap cut_to e.answers; leaves = e.leaves }
