-- The lowest field of a measurement is by its table. Assumes nothing.
use Rattle.codec.specs.Ranges.{LowestBy}
use Rattle.codec.proofs.Ranges.{row, rows}
use Rattle.record.proofs.Ranges.{figures_by_table}
use Rattle.units.specs.Units.{by_unit}
use Rattle.units.specs.Measurement.{measurement_lowest}
use Rattle.units.specs.Ranges.{measurement_ranges}

pub measurement_by_table : LowestBy measurement_lowest measurement_ranges
unfolding measurement_lowest by_unit
measurement_by_table m = rows (figures_by_table _ _ m.figures) (row 12 _)
