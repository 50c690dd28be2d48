-- `recorder::Recorder::start` meets its contract. Assumes nothing.
use mathlib.Core.Bool.{false}
use mathlib.Core.Path.{ap}
use Rattle.cutter.specs.declared.Cutter.{Cutter}
use Rattle.recorder.proofs.Recorder.start.Goals as goal

pub returns : goal.returns
returns c = ap (λ (x : Cutter). record { cutter = x; setup = c.args.setup; sent = false; opened = false }) c.fresh.ensures
