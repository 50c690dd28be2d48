-- `units::shown_pupil` meets its contract: a return for each case. Assumes nothing.
use Prim.Native.Nat.{ℕ}
use mathlib.Core.Bool.{Bool}
use mathlib.Core.Path.{◌≡◌, refl, sym, ap, ◌∙◌}
use lib.IntN.{ℤ}
use mir.Syntax.{w32}
use mir.Val.{to_z, of_z}
use mir.Facts.{to_z-of_z}
use borrow.Author.Rules.{rules}
use borrow.Author.Tests.{le-leb, lt-leb}
use lib.Dec.{leb}
use Rattle.laws.proofs.Tests.{yes, no}
use Rattle.sign.specs.Sign.{size}
use Rattle.record.specs.Record.{top_pupil}
use Rattle.units.specs.Units.{number_in}
use Rattle.units.specs.Measurement.{shown_pupil}
use Rattle.units.proofs.shown_pupil.Goals as goal

-- the test of the pupil's own size
tested : {y z : ℤ} {n : ℕ} {b : Bool} → y ≡ z → n ≡ size y → leb n top_pupil ≡ b → leb (size z) top_pupil ≡ b
tested own e h = ap (λ (n : ℕ). leb n top_pupil) (sym (e ∙ ap size own)) ∙ h

pub returns-then-size_of-gt999 : goal.returns-then-size_of-gt999
unfolding shown_pupil
returns-then-size_of-gt999 c = no _ (tested (to_z-of_z c.ranges.e) c.size_of.ensures (lt-leb _ _ c.if-size_of-gt999.true)) refl

pub pupil_in-requires : goal.pupil_in-requires
pupil_in-requires c = rw (sym c.size_of.ensures) c.if-size_of-gt999.false

pub returns : goal.returns
unfolding shown_pupil
returns c =
    let z : to_z w32 (of_z w32 c.pupil_in.result) ≡ c.pupil_in.result = to_z-of_z {w = w32} (search rules) in
    let own = to_z-of_z c.ranges.e in
    yes _ (tested own c.size_of.ensures (le-leb _ _ c.if-size_of-gt999.false))
    (z ∙ c.pupil_in.ensures ∙ ap (number_in c.args.unit c.args.display) own)
