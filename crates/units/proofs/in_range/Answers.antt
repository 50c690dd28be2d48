-- `units::in_range` meets its contract: each `return` is a case of `inRange`. Assumes nothing.
use mathlib.Core.Bool.{not}
use mathlib.Core.Path.{sym, ap, ◌∙◌}
use lib.Dec.{leb}
use mir.Facts.{to_z-of_z}
use borrow.Author.Tests.{eq-eqb, ne_eqb}
use Rattle.laws.proofs.Tests.{yes, no, and_fails, and_goes}
use Rattle.sign.specs.Sign.{size, below0}
use Rattle.units.specs.Units.{in_range}
use Rattle.units.proofs.in_range.Goals as goal

pub returns-then-field-eq10 : goal.returns-then-field-eq10
unfolding in_range
returns-then-field-eq10 c =
    let size_is = c.size_of.ensures ∙ ap size (to_z-of_z c.ranges.number) in
    yes _ (eq-eqb _ _ c.if-field-eq10.true) (λ i. leb (size_is i) (c.most_in.ensures i))

pub returns-then-not-is_distance : goal.returns-then-not-is_distance
unfolding in_range
returns-then-not-is_distance c =
    no _ (ne_eqb _ _ c.if-field-eq10.false) (and_fails _ (sym c.is_distance.ensures ∙ c.if-not-is_distance.true))

pub returns-then-is_below : goal.returns-then-is_below
unfolding in_range
returns-then-is_below c =
    no _ (ne_eqb _ _ c.if-field-eq10.false)
    (and_goes (sym c.is_distance.ensures ∙ c.if-not-is_distance.false) (and_fails _ (ap not (sym (c.is_below.ensures ∙ ap below0 (to_z-of_z c.ranges.number)) ∙ c.if-is_below.true))))

pub returns : goal.returns
unfolding in_range
returns c =
    let size_is = c.size_of-2.ensures ∙ ap size (to_z-of_z c.ranges.number) in
    no _ (ne_eqb _ _ c.if-field-eq10.false)
    (and_goes (sym c.is_distance.ensures ∙ c.if-not-is_distance.false)
    (and_goes (ap not (sym (c.is_below.ensures ∙ ap below0 (to_z-of_z c.ranges.number)) ∙ c.if-is_below.false)) (λ i. leb (size_is i) (c.top_in.ensures i))))
