-- `recorder::Recorder::make` meets its contract: its test is that of `reading_of`. Assumes nothing.
use mathlib.Core.Path.{sym, ap, ◌∙◌}
use Rattle.recorder.specs.Recorder.{record_ending, reading_in}
use Rattle.recorder.specs.declared.Reading.TheVariants.{Fixed as as_fixed, Record as as_record}
use Rattle.recorder.proofs.Takes.{reads_record, reads_fixed}
use Rattle.recorder.proofs.Recorder.make.Goals as goal

pub returns-then-self : goal.returns-then-self
unfolding reading_in record_ending
returns-then-self c = ap as_record c.read_record.ensures ∙ sym (reads_record _ _ c.if-self.true)

pub returns-else-self : goal.returns-else-self
unfolding reading_in
returns-else-self c = ap as_fixed c.read_fixed.ensures ∙ sym (reads_fixed _ _ c.if-self.false)
