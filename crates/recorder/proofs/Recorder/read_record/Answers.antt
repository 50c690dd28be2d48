-- `recorder::Recorder::read_record` meets its contract: the form is the one that the settings name. Assumes nothing.
use mathlib.Core.Path.{sym, ◌∙◌}
use Rattle.recorder.specs.Recorder.{record_ending}
use Rattle.recorder.proofs.Recorder.read_record.Goals as goal

pub returns-then-setup : goal.returns-then-setup
unfolding record_ending
returns-then-setup c = c.read_packed.ensures ∙ sym (rw c.if-setup.true)

pub returns-else-setup : goal.returns-else-setup
unfolding record_ending
returns-else-setup c = c.read_text.ensures ∙ sym (rw c.if-setup.false)
