-- `pupil::read_pupil_packed` meets its contract: each `return` is a case of `read_pupil_packed`. Assumes nothing.
use mathlib.Core.Path.{refl, sym, ◌∙◌}
use borrow.Author.Tests.{eq-eqb, ne_eqb}
use Rattle.laws.proofs.Tests.{yes, no, at}
use Rattle.pupil.specs.Pupil.{code_in, read_pupil_packed}
use Rattle.pupil.proofs.read_pupil_packed.Goals as goal

pub returns-then-s-ne2 : goal.returns-then-s-ne2
unfolding read_pupil_packed
returns-then-s-ne2 c = no _ (ne_eqb _ _ c.if-s-ne2.true) refl

pub returns-in_err-k : goal.returns-in_err-k
unfolding read_pupil_packed
returns-in_err-k c =
    c.from_residual.ensures ∙ yes _ (eq-eqb _ _ c.if-s-ne2.false) (at code_in (sym c.read_groups.ensures ∙ c.in_err-k.was) refl)

pub returns : goal.returns
unfolding read_pupil_packed
returns c =
    yes _ (eq-eqb _ _ c.if-s-ne2.false) (at code_in (sym c.read_groups.ensures ∙ c.in_ok-k.was) c.signed_field.ensures)
