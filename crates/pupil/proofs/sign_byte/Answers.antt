-- `pupil::sign_byte` meets its contract. Assumes nothing.
use mathlib.Core.Path.{refl, sym, ap, ◌∙◌}
use mir.Facts.{to_z-of_z}
use Rattle.sign.specs.Sign.{below0}
use Rattle.laws.proofs.Tests.{yes, no}
use Rattle.pupil.proofs.sign_byte.Goals as goal

pub returns-then-is_below : goal.returns-then-is_below
returns-then-is_below c = yes _ (sym (c.is_below.ensures ∙ ap below0 (to_z-of_z c.ranges.e)) ∙ c.if-is_below.true) refl

pub returns-else-is_below : goal.returns-else-is_below
returns-else-is_below c = no _ (sym (c.is_below.ensures ∙ ap below0 (to_z-of_z c.ranges.e)) ∙ c.if-is_below.false) refl
