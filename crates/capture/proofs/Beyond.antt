-- A number below zero in a field that holds none is refused: what the field is given is in no field's range. Assumes nothing.
use Prim.Native.Nat.{ℕ, ◌≤◌}
use mathlib.Core.Bool.{true, cond}
use mathlib.Core.Logic.{inl, inr}
use mathlib.Core.Path.{◌≡◌, ◌∙◌}
use native.Mathlib.Nat.{le_trans}
use native.Mathlib.Omega.{arith}
use borrow.Author.Tests.{leb-true, eqb-true}
use lib.Dec.{leb, eqb}
use Rattle.std.specs.Prelude.{Err}
use Rattle.laws.proofs.Tests.{told, cond_yes, cond_no}
use Rattle.stop.proofs.Exact.{stop_top}
use Rattle.refusal.specs.declared.Refusal.TheVariants.{Field}
use Rattle.record.specs.declared.Figures.{Figures}
use Rattle.units.specs.Units.{is_unit}
use Rattle.units.specs.Measurement.{measurement_lowest, measurement_verdict}
use Rattle.units.specs.declared.Measurement.{Measurement}
use Rattle.units.proofs.Table.{measurement_by_table}
use Rattle.capture.specs.Promises.{Beyond}

-- the highest distance of either unit
top_low : (u : ℕ) → cond (eqb u 73) 3937007 9999999 ≤ 9999999
top_low u = told (eqb u 73) (λ e. rw e (omega arith)) (λ e. rw e (omega arith))

under : (n top : ℕ) → leb n top ≡ true → top ≤ 9999999 → n ≤ 9999999
under n top e h = le_trans (leb-true n top e) h

-- what each field holds where it is in range
record Small (f : Figures) : Type 0 where
  focus : f.focus ≤ 9999999
  aperture : f.aperture ≤ 9999999
  stop : f.stop ≤ 9999999
  tenth : f.tenth ≤ 9999999
  focal : f.focal ≤ 9999999
  hyperfocal : f.hyperfocal ≤ 9999999
  near : f.near ≤ 9999999
  far : f.far ≤ 9999999
  view : f.view ≤ 9999999
  zoom : f.zoom ≤ 9999999

small : (m : Measurement) → measurement_lowest m ≡ 0 → Small m.figures
small m e =
    let h = (measurement_by_table m).all_in.0 e in
    let f = m.figures in
    let top : ℕ = cond (eqb m.unit 73) 3937007 9999999 in
    let t = top_low m.unit in
    record {
      focus = under f.focus top h.0 t;
      aperture = under f.aperture 4095 h.1.0 (omega arith);
      stop = omega (arith, stop_top f.stop h.1.1.0);
      tenth = under f.tenth 9 h.1.1.1.0 (omega arith);
      focal = under f.focal 1023 h.1.1.1.1.0 (omega arith);
      hyperfocal = under f.hyperfocal top h.1.1.1.1.1.0 t;
      near = under f.near top h.1.1.1.1.1.1.0 t;
      far = under f.far top h.1.1.1.1.1.1.1.0 t;
      view = under f.view 4095 h.1.1.1.1.1.1.1.1.0 (omega arith);
      zoom = under f.zoom 1000 h.1.1.1.1.1.1.1.1.1.1.0 (omega arith);
    }

refuted : (f : Figures) → Small f → Beyond f → ⊥
refuted f s (inl b) = omega (arith, s.focus)
refuted f s (inr (inl b)) = omega (arith, s.aperture)
refuted f s (inr (inr (inl b))) = omega (arith, s.stop)
refuted f s (inr (inr (inr (inl b)))) = omega (arith, s.tenth)
refuted f s (inr (inr (inr (inr (inl b))))) = omega (arith, s.focal)
refuted f s (inr (inr (inr (inr (inr (inl b)))))) = omega (arith, s.hyperfocal)
refuted f s (inr (inr (inr (inr (inr (inr (inl b))))))) = omega (arith, s.near)
refuted f s (inr (inr (inr (inr (inr (inr (inr (inl b)))))))) = omega (arith, s.far)
refuted f s (inr (inr (inr (inr (inr (inr (inr (inr (inl b))))))))) = omega (arith, s.view)
refuted f s (inr (inr (inr (inr (inr (inr (inr (inr (inr b))))))))) = omega (arith, s.zoom)

pub beyond : (m : Measurement) → Beyond m.figures → (i : ℕ) × (measurement_verdict m ≡ Err (Field i))
unfolding measurement_verdict
beyond m b =
    told (is_unit m.unit)
    (λ u.
    told (eqb (measurement_lowest m) 0)
    (λ e. absurd (refuted m.figures (small m (eqb-true (measurement_lowest m) 0 e)) b))
    (λ e. (measurement_lowest m, cond_yes _ _ u ∙ cond_no _ _ e)))
    (λ u. (0, cond_no _ _ u))
