-- `hourheron::heron_recorder_first` meets its contract: a start with the first settings. Assumes nothing.
use mathlib.Core.Path.{ap, ◌∙◌}
use Rattle.recorder.specs.Recorder.{start_of}
use Rattle.hourheron.proofs.heron_recorder_first.Goals as goal

pub returns : goal.returns
returns c = c.start.ensures ∙ ap start_of c.first.ensures
