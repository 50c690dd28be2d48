-- What a measurement may hold, how P shows its temperature, and the record that it gives in a display unit.
use Rattle.std.specs.Prelude.{ℕ, Bool, ◌&&◌, cond, List, [], ◌∷◌, leb, eqb, ℤ, pos, negsuc, Err, Ok}
use Rattle.std.specs.Int.Signed.{le_z}
use Rattle.refusal.specs.Answer.{Verdict}
use Rattle.digits.specs.Digits.{decimal}
use Rattle.sign.specs.Sign.{size, below0}
use Rattle.refusal.specs.declared.Refusal.TheVariants.{Field}
use Rattle.codec.specs.Codec.{failing, first}
use Rattle.record.specs.Record.{top_distance, top_pupil, figures_lowest}
use Rattle.record.specs.declared.Figures.{Figures}
use Rattle.record.specs.declared.Record.{Record}
use Rattle.units.specs.Units.{is_unit, top_in, most_in, size_in, number_in}
use Rattle.units.specs.declared.Measurement.{Measurement}

-- -99..199 degrees
abbrev pub temperature_ok : ℤ → Bool
temperature_ok t = le_z (negsuc 98) t && le_z t (pos 199)

-- what P sends: below 0 the letters FF (001, section 5.1.6), else two digits, above 99 those of 99
unfoldable pub degrees : ℤ → List ℕ
degrees t = cond (below0 t) (70 ∷ 70 ∷ []) (decimal 2 (cond (leb (size t) 99) (size t) 99))

-- the lowest of fields 1 to 11 out of its unit's range, then 13 for the temperature; 0 where there is none
unfoldable pub measurement_lowest : Measurement → ℕ
measurement_lowest m =
    first (figures_lowest (top_in m.unit) (most_in m.unit) m.figures) (failing (temperature_ok m.temperature) 13)

-- the unit letter before all, as 0
unfoldable pub measurement_verdict : Measurement → Verdict
measurement_verdict m =
    cond (is_unit m.unit)
    (cond (eqb (measurement_lowest m) 0) (Ok tt) (Err (Field (measurement_lowest m))))
    (Err (Field 0))

-- a distance and the pupil in the display unit; one out of every range counts as 0, and no accepted measurement has one
unfoldable pub shown_distance : ℕ → ℕ → ℕ → ℕ
shown_distance unit display n = cond (leb n top_distance) (size_in unit display n) 0

unfoldable pub shown_pupil : ℕ → ℕ → ℤ → ℤ
shown_pupil unit display z = cond (leb (size z) top_pupil) (number_in unit display z) (pos 0)

-- fields 1, 6, 7, 8 and 10 converted, the others untouched
unfoldable pub figures_in : ℕ → ℕ → Figures → Figures
figures_in unit display f = record {
  focus = shown_distance unit display f.focus;
  aperture = f.aperture;
  stop = f.stop;
  tenth = f.tenth;
  focal = f.focal;
  hyperfocal = shown_distance unit display f.hyperfocal;
  near = shown_distance unit display f.near;
  far = shown_distance unit display f.far;
  view = f.view;
  pupil = shown_pupil unit display f.pupil;
  zoom = f.zoom;
}

unfoldable pub record_in : ℕ → Measurement → List ℕ → Record
record_in display m serial = record { figures = figures_in m.unit display m.figures; serial = serial }
