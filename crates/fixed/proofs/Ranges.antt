-- The lowest item of the fixed data and of the settings is by its table. Assumes nothing.
use Rattle.codec.specs.Ranges.{LowestBy}
use Rattle.codec.proofs.Ranges.{row, rows}
use Rattle.fixed.specs.Fixed.{kind_ok, letter_ok, lens_lowest, fixed_lowest, settings_lowest}
use Rattle.fixed.specs.Ranges.{fixed_ranges, settings_ranges}

pub fixed_by_table : LowestBy fixed_lowest fixed_ranges
unfolding fixed_lowest lens_lowest kind_ok letter_ok
fixed_by_table f =
    rows (row 0 _)
    (rows (row 1 _) (rows (rows (row 2 _) (rows (row 3 _) (rows (row 4 _) (rows (row 5 _) (row 6 _))))) (row 7 _)))

pub settings_by_table : LowestBy settings_lowest settings_ranges
unfolding settings_lowest
settings_by_table s = rows (fixed_by_table s.fixed) (rows (row 8 _) (rows (row 9 _) (row 10 _)))
