-- `reply::act` meets its contract: by the state, on the command that the line is. Assumes nothing.
use mathlib.Core.Path.{sym, ap, subst, ◌∙◌}
use Rattle.laws.proofs.Tests.{at}
use Rattle.line.specs.declared.Command.{Command}
use Rattle.line.specs.Command.{InRange}
use Rattle.line.proofs.Laws.{command_range}
use Rattle.state.specs.declared.State.{State}
use Rattle.rules.specs.Does.{readies, runs, does_in, does}
use Rattle.reply.specs.Reply.{acted_of}
use Rattle.reply.proofs.act.Goals as goal

pub running-requires : goal.running-requires
running-requires c =
    subst InRange (sym c.command-command.ensures) (command_range c.args.line)

pub returns-in-Ready : goal.returns-in-Ready
unfolding does does_in
returns-in-Ready c =
    let a = c.args in
    at (λ (k : State). acted_of (does_in k a.source a.line)) c.in-Ready.is
    (c.ready.ensures ∙ ap (λ (k : Command). acted_of (readies a.source k)) c.command-command.ensures)

pub returns-in-Running : goal.returns-in-Running
unfolding does does_in
returns-in-Running c =
    let a = c.args in
    at (λ (k : State). acted_of (does_in k a.source a.line)) c.in-Running.is
    (c.running.ensures ∙ ap (λ (k : Command). acted_of (runs a.source k)) c.command-command.ensures)
