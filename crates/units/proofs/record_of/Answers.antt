-- `units::record_of` meets its contract: the figures are what the call answers. Assumes nothing.
use mathlib.Core.Path.{ap}
use Rattle.record.specs.declared.Figures.{Figures}
use Rattle.record.specs.declared.Record.{Record}
use Rattle.units.specs.Measurement.{record_in}
use Rattle.units.proofs.record_of.Goals as goal

pub returns : goal.returns
unfolding record_in
returns c = ap {B = Record} (λ (f : Figures). record { figures = f; serial = c.args.serial }) c.figures_in-figures.ensures
