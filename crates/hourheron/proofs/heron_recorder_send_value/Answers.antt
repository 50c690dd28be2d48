-- `hourheron::heron_recorder_send_value` meets its contract: what the recorder answered is handed on. Assumes nothing.
use mathlib.Core.Path.{ap, ◌∙◌}
use Rattle.hourheron.specs.Takes.{send_to}
use Rattle.hourheron.proofs.heron_recorder_send_value.Goals as goal

pub returns : goal.returns
returns c =
    let e = c.send.ensures in
    record { answers = c.handed_out.ensures ∙ ap send_to e.answers; leaves = e.leaves }
