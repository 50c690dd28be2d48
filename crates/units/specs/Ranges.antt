-- The ranges of a measurement of either unit, row by row: fields 1 to 11, the first of two ends in an imperial one, and the temperature as 13.
use Rattle.std.specs.Prelude.{◌&&◌, cond, [], ◌∷◌, ◌++◌, eqb, pos, negsuc}
use Rattle.std.specs.Int.Signed.{le_z}
use Rattle.codec.specs.Ranges.{Ranges}
use Rattle.record.specs.Ranges.{figures_ranges}
use Rattle.units.specs.declared.Measurement.{Measurement}

abbrev pub measurement_ranges : Measurement → Ranges
measurement_ranges m =
    figures_ranges (cond (eqb m.unit 73) 3937007 9999999) (cond (eqb m.unit 73) 393 999) m.figures
    ++ (13, le_z (negsuc 98) m.temperature && le_z m.temperature (pos 199)) ∷ []
