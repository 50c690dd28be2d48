-- What a record in the display unit holds of an accepted measurement. Statements only.
use Rattle.std.specs.Prelude.{ℕ, true, List, ◌≡◌, pos, Ok}
use Rattle.record.specs.declared.Figures.{Figures}
use Rattle.units.specs.Units.{is_unit, Converts}
use Rattle.units.specs.Measurement.{measurement_verdict, record_in}
use Rattle.units.specs.declared.Measurement.{Measurement}

-- of the figures f of one unit, g in the other: "fields 1, 6, 7, 8, 10" converted, the others untouched
pub record Shows (unit display : ℕ) (f g : Figures) : Type 0 where
  pub focus : Converts unit display (pos f.focus) (pos g.focus)
  pub aperture : g.aperture ≡ f.aperture
  pub stop : g.stop ≡ f.stop
  pub tenth : g.tenth ≡ f.tenth
  pub focal : g.focal ≡ f.focal
  pub hyperfocal : Converts unit display (pos f.hyperfocal) (pos g.hyperfocal)
  pub near : Converts unit display (pos f.near) (pos g.near)
  pub far : Converts unit display (pos f.far) (pos g.far)
  pub view : g.view ≡ f.view
  pub pupil : Converts unit display f.pupil g.pupil
  pub zoom : g.zoom ≡ f.zoom

-- no field of an accepted measurement is shown as the 0 of one out of every range
abbrev pub RecordShows : Type 0
RecordShows = (m : Measurement) (display : ℕ) (serial : List ℕ) → measurement_verdict m ≡ Ok tt → is_unit display ≡ true →
    Shows m.unit display m.figures (record_in display m serial).figures × ((record_in display m serial).serial ≡ serial)
