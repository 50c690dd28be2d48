-- What may be sent: document 01's table of ranges, one rule for both forms. The answer is the lowest field out of range, 0 where there is none.
use Rattle.std.specs.Prelude.{ℕ, leb, pos, replicate}
use Rattle.sign.specs.Sign.{size}
use Rattle.codec.specs.Codec.{failing, first, text_ok}
use Rattle.stop.specs.Stop.{stop_ok}
use Rattle.record.specs.declared.Figures.{Figures}
use Rattle.record.specs.declared.Record.{Record}

-- the highest distance, and how far the pupil reaches from zero
abbrev pub top_distance : ℕ
top_distance = 9999999

abbrev pub top_pupil : ℕ
top_pupil = 999

-- fields 1 to 4, distances up to top
unfoldable pub front_lowest : ℕ → Figures → ℕ
front_lowest top f =
    first (failing (leb f.focus top) 1)
    (first (failing (leb f.aperture 4095) 2)
    (first (failing (stop_ok f.stop) 3)
    (failing (leb f.tenth 9) 4)))

-- fields 5 to 8
unfoldable pub middle_lowest : ℕ → Figures → ℕ
middle_lowest top f =
    first (failing (leb f.focal 1023) 5)
    (first (failing (leb f.hyperfocal top) 6)
    (first (failing (leb f.near top) 7)
    (failing (leb f.far top) 8)))

-- fields 9 to 11, the pupil up to most from zero
unfoldable pub back_lowest : ℕ → Figures → ℕ
back_lowest most f =
    first (failing (leb f.view 4095) 9)
    (first (failing (leb (size f.pupil) most) 10)
    (failing (leb f.zoom 1000) 11))

unfoldable pub figures_lowest : ℕ → ℕ → Figures → ℕ
figures_lowest top most f = first (front_lowest top f) (first (middle_lowest top f) (back_lowest most f))

-- and field 12: a text of nine bytes
unfoldable pub record_lowest : Record → ℕ
record_lowest r = first (figures_lowest top_distance top_pupil r.figures) (failing (text_ok 9 r.serial) 12)

-- ---- zeros

abbrev pub no_figures : Figures
no_figures = record {
  focus = 0;
  aperture = 0;
  stop = 0;
  tenth = 0;
  focal = 0;
  hyperfocal = 0;
  near = 0;
  far = 0;
  view = 0;
  pupil = pos 0;
  zoom = 0;
}

abbrev pub no_record : Record
no_record = record { figures = no_figures; serial = replicate 9 0 }
