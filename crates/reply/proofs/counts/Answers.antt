-- `reply::counts` meets its contract: by the state, on the command that the line is. Assumes nothing.
use mathlib.Core.Path.{refl, ap, ◌∙◌}
use Rattle.laws.proofs.Tests.{at}
use Rattle.state.specs.declared.State.{State}
use Rattle.rules.specs.Does as table
use Rattle.reply.proofs.counts.Goals as goal

pub returns-in-Ready : goal.returns-in-Ready
unfolding table.counts table.counts_in
returns-in-Ready c =
    let a = c.args in
    at (λ (k : State). table.counts_in k a.line) c.in-Ready.is (c.is_n.ensures ∙ ap table.is_n c.command-command.ensures)

pub returns-in-Running : goal.returns-in-Running
unfolding table.counts table.counts_in
returns-in-Running c =
    let a = c.args in
    at (λ (k : State). table.counts_in k a.line) c.in-Running.is refl
