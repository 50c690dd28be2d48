-- An accepted measurement's numbers are in range, so its record shows each of them converted. Assumes nothing.
use Prim.Native.Nat.{ℕ, ◌≤◌}
use mathlib.Core.Bool.{true}
use mathlib.Core.Path.{◌≡◌, refl}
use native.Mathlib.Nat.{le_trans}
use lib.IntN.{ℤ, pos}
use Rattle.sign.specs.Sign.{size}
use Rattle.units.specs.Units.{is_unit, top_in, most_in, number_in, Converts}
use Rattle.units.specs.Measurement.{shown_distance, shown_pupil, figures_in, record_in}
use Rattle.units.specs.Promises.{RecordShows}
use Rattle.units.proofs.Nearest.{converts}
use Rattle.units.proofs.Ranges.{top_bound, most_bound, reaches, distance_whole, pupil_whole, accepted_told}

module _ (unit display : ℕ) (p : is_unit unit ≡ true) (q : is_unit display ≡ true) where
  distance_shown : {n : ℕ} → n ≤ top_in unit → Converts unit display (pos n) (pos (shown_distance unit display n))
  unfolding number_in
  distance_shown {n} h = rw (distance_whole unit display (le_trans h (top_bound unit))) (converts unit display (pos n) p q)

  pupil_shown : {z : ℤ} → size z ≤ most_in unit → Converts unit display z (shown_pupil unit display z)
  pupil_shown {z} h = rw (pupil_whole unit display z (le_trans h (most_bound unit))) (converts unit display z p q)

pub record_shows : RecordShows
unfolding record_in figures_in
record_shows m display serial done d =
    let a = accepted_told m done in
    let unit = m.unit in
    let r = reaches _ _ _ a.figures in (
      record {
        focus = distance_shown unit display a.letter d r.focus;
        aperture = refl;
        stop = refl;
        tenth = refl;
        focal = refl;
        hyperfocal = distance_shown unit display a.letter d r.hyperfocal;
        near = distance_shown unit display a.letter d r.near;
        far = distance_shown unit display a.letter d r.far;
        view = refl;
        pupil = pupil_shown unit display a.letter d r.pupil;
        zoom = refl;
      },
      refl,
    )
