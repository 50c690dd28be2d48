-- The lowest field of the figures and of a record is by its table. Assumes nothing.
use Prim.Native.Nat.{ℕ}
use Rattle.codec.specs.Codec.{text_ok}
use Rattle.codec.specs.Ranges.{Lowest, LowestBy}
use Rattle.codec.proofs.Ranges.{row, rows}
use Rattle.record.specs.Record.{front_lowest, middle_lowest, back_lowest, figures_lowest, record_lowest}
use Rattle.record.specs.Ranges.{figures_ranges, record_ranges}
use Rattle.record.specs.declared.Figures.{Figures}

pub figures_by_table : (top most : ℕ) (f : Figures) → Lowest (figures_lowest top most f) (figures_ranges top most f)
unfolding figures_lowest front_lowest middle_lowest back_lowest
figures_by_table top most f =
    rows (rows (row 0 _) (rows (row 1 _) (rows (row 2 _) (row 3 _))))
    (rows (rows (row 4 _) (rows (row 5 _) (rows (row 6 _) (row 7 _)))) (rows (row 8 _) (rows (row 9 _) (row 10 _))))

pub record_by_table : LowestBy record_lowest record_ranges
unfolding record_lowest text_ok
record_by_table r = rows (figures_by_table _ _ r.figures) (row 11 _)
