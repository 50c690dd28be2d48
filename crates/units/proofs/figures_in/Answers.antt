-- `units::figures_in` meets its contract: field by field, what the calls answer. Assumes nothing.
use mathlib.Core.Path.{◌≡◌, ap, ◌∙◌}
use mir.Syntax.{w32}
use mir.Val.{to_z, of_z}
use mir.Facts.{to_z-of_z}
use borrow.Author.Rules.{rules}
use Rattle.units.specs.Measurement.{shown_pupil, figures_in}
use Rattle.units.proofs.figures_in.Goals as goal

pub returns : goal.returns
unfolding figures_in
returns c =
    let f = c.args.f in
    let z : to_z w32 (of_z w32 c.shown_pupil.result) ≡ c.shown_pupil.result = to_z-of_z {w = w32} (search rules) in
    let own : to_z w32 (of_z w32 f.pupil) ≡ f.pupil = to_z-of_z {w = w32} (search rules) in
    let pupil = z ∙ c.shown_pupil.ensures ∙ ap (shown_pupil c.args.unit c.args.display) own in
    λ i. record {
      focus = c.shown_distance.ensures i;
      aperture = f.aperture;
      stop = f.stop;
      tenth = f.tenth;
      focal = f.focal;
      hyperfocal = c.shown_distance-2.ensures i;
      near = c.shown_distance-3.ensures i;
      far = c.shown_distance-4.ensures i;
      view = f.view;
      pupil = pupil i;
      zoom = f.zoom;
    }
