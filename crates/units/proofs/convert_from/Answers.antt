-- `units::convert_from` meets its contract: the field and its range, then the number. Assumes nothing.
use Prim.Native.Nat.{ℕ}
use mathlib.Core.Bool.{Bool, true}
use mathlib.Core.Path.{◌≡◌, refl, sym, ap, ◌∙◌}
use lib.IntN.{ℤ}
use mir.Syntax.{w32}
use mir.Val.{to_z, of_z}
use mir.Facts.{to_z-of_z}
use borrow.Author.Rules.{rules}
use Rattle.std.specs.Prelude.{Ok}
use Rattle.laws.proofs.Tests.{yes, no}
use Rattle.refusal.specs.Answer.{unless}
use Rattle.refusal.specs.declared.Refusal.TheVariants.{Field}
use Rattle.units.specs.Units.{number_in, in_range}
use Rattle.units.proofs.Ranges.{pupil_told, distance_told}
use Rattle.units.proofs.convert_from.Goals as goal

module _ (i unit wanted : ℕ) {y z : ℤ} {t : Bool} (own : y ≡ z) (tested : t ≡ in_range i y unit) where
  -- the number that the calls take is the caller's own, and so is the test
  range : {b : Bool} → t ≡ b → in_range i z unit ≡ b
  range e = sym (tested ∙ ap (λ (x : ℤ). in_range i x unit) own) ∙ e

  -- in range: the answer is the number, by whichever call
  valued : {r : ℤ} → t ≡ true → r ≡ number_in unit wanted y → Ok r ≡ unless (in_range i z unit) (Field i) (Ok (number_in unit wanted z))
  unfolding unless
  valued e h = yes _ (range e) (ap Ok (h ∙ ap (number_in unit wanted) own))

pub returns-then-not-in_range : goal.returns-then-not-in_range
unfolding unless
returns-then-not-in_range c = no _ (range _ _ c.args.wanted (to_z-of_z c.ranges.number) c.in_range.ensures c.if-not-in_range.true) refl

pub pupil_in-requires : goal.pupil_in-requires
pupil_in-requires c =
    let own = to_z-of_z c.ranges.number in
    rw own (pupil_told _ _ _ (range _ _ c.args.wanted own c.in_range.ensures c.if-not-in_range.false) c.if-field-eq10.true)

pub returns-then-field-eq10 : goal.returns-then-field-eq10
returns-then-field-eq10 c =
    let z : to_z w32 (of_z w32 c.pupil_in.result) ≡ c.pupil_in.result = to_z-of_z {w = w32} (search rules) in
    valued _ _ c.args.wanted (to_z-of_z c.ranges.number) c.in_range.ensures c.if-not-in_range.false (z ∙ c.pupil_in.ensures)

pub distance_in-requires : goal.distance_in-requires
distance_in-requires c =
    let own = to_z-of_z c.ranges.number in
    rw own (distance_told _ _ _ (range _ _ c.args.wanted own c.in_range.ensures c.if-not-in_range.false) c.if-field-eq10.false)

pub returns : goal.returns
returns c =
    let z : to_z w32 (of_z w32 c.distance_in.result) ≡ c.distance_in.result = to_z-of_z {w = w32} (search rules) in
    valued _ _ c.args.wanted (to_z-of_z c.ranges.number) c.in_range.ensures c.if-not-in_range.false (z ∙ c.distance_in.ensures)
