-- Document 01's columns 'No.' and 'Range', row by row.
use Rattle.std.specs.Prelude.{ℕ, ◌&&◌, [], ◌∷◌, ◌++◌, leb, eqb, length}
use Rattle.laws.specs.Every.{every}
use Rattle.sign.specs.Sign.{size}
use Rattle.codec.specs.Ranges.{Ranges}
use Rattle.stop.specs.Stop.{stop_ok}
use Rattle.record.specs.declared.Figures.{Figures}
use Rattle.record.specs.declared.Record.{Record}

-- fields 1 to 11, distances up to top and the pupil up to most from zero
abbrev pub figures_ranges : ℕ → ℕ → Figures → Ranges
figures_ranges top most f =
    (1, leb f.focus top)
    ∷ (2, leb f.aperture 4095)
    ∷ (3, stop_ok f.stop)
    ∷ (4, leb f.tenth 9)
    ∷ (5, leb f.focal 1023)
    ∷ (6, leb f.hyperfocal top)
    ∷ (7, leb f.near top)
    ∷ (8, leb f.far top)
    ∷ (9, leb f.view 4095)
    ∷ (10, leb (size f.pupil) most)
    ∷ (11, leb f.zoom 1000)
    ∷ []

-- and field 12: "9 bytes, each 20..7E hex"
abbrev pub record_ranges : Record → Ranges
record_ranges r = figures_ranges 9999999 999 r.figures ++ (12, eqb (length r.serial) 9 && every (λ x. leb 0x20 x && leb x 0x7E) r.serial) ∷ []
