-- `serial::record_from` meets its contract. Assumes nothing.
use mathlib.Core.Path.{ap}
use Rattle.record.specs.Forms.{with_serial}
use Rattle.serial.proofs.record_from.Goals as goal

pub returns : goal.returns
returns c = ap (with_serial c.args.figures) c.nine_of-serial.ensures
