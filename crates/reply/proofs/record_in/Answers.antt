-- `reply::record_in` meets its contract: an arm for each form. Assumes nothing.
use mathlib.Core.Logic.{⊎_elim}
use mathlib.Core.Path.{ap, ◌∙◌}
use Rattle.laws.proofs.Tests.{at}
use Rattle.frame.specs.Frame.{framed}
use Rattle.record.specs.Forms.{text_form, packed_form}
use Rattle.record.specs.declared.Record.{Record}
use Rattle.state.specs.declared.Message.{Message}
use Rattle.state.specs.declared.Sending.{Sending}
use Rattle.state.specs.declared.Source.{Source}
use Rattle.state.specs.State.{unsent}
use Rattle.rules.specs.Does.{record_is}
use Rattle.reply.proofs.record_in.Goals as goal

abbrev built : Source → Sending → Message
built s k = unsent (framed s.modes.checksum (record_is k s))

abbrev text : Source → Record → Message
text s r = unsent (framed s.modes.checksum (text_form.print r))

abbrev packed : Source → Record → Message
packed s r = unsent (framed s.modes.checksum (packed_form.print r))

pub returns-in-Off : goal.returns-in-Off
unfolding record_is
returns-in-Off c =
    let s = c.args.source in
    let h = c.text_message.ensures ∙ ap (text s) c.record_now-record.ensures in
    ⊎_elim (λ e. at (built s) e h) (λ e. at (built s) e h) c.in-Off.is

pub returns-in-Packed : goal.returns-in-Packed
unfolding record_is
returns-in-Packed c =
    let s = c.args.source in
    at (built s) c.in-Packed.is (c.packed_message.ensures ∙ ap (packed s) c.record_now-record.ensures)
