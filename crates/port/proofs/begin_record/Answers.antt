-- `port::begin_record` meets its contract. Assumes nothing.
use mathlib.Core.Path.{ap, ◌∙◌}
use Rattle.state.specs.declared.Message.{Message}
use Rattle.state.specs.declared.Last.TheVariants as last
use Rattle.port.specs.Port.{begun_with, begins_record}
use Rattle.port.proofs.begin_record.Goals as goal

pub returns : goal.returns
unfolding begins_record
returns c =
    let p = c.args.p in
    c.begin.ensures ∙ ap (λ (x : Message). begun_with p.source x last.Record p.waiting) c.record_message-message.ensures
