-- `pupil::read_pupil_text` meets its contract: each `return` is a case of `read_pupil_text`. Assumes nothing.
use mathlib.Core.Path.{refl, sym, ◌∙◌}
use borrow.Author.Tests.{eq-eqb, ne_eqb}
use Rattle.laws.proofs.Tests.{yes, no, at}
use Rattle.pupil.specs.Pupil.{signed_in, read_pupil_text}
use Rattle.pupil.proofs.read_pupil_text.Goals as goal

pub returns-then-s-ne5 : goal.returns-then-s-ne5
unfolding read_pupil_text
returns-then-s-ne5 c = no _ (ne_eqb _ _ c.if-s-ne5.true) refl

pub returns-then-not-is_marked : goal.returns-then-not-is_marked
unfolding read_pupil_text
returns-then-not-is_marked c =
    yes _ (eq-eqb _ _ c.if-s-ne5.false) (no _ (sym c.is_marked.ensures ∙ c.if-not-is_marked.true) refl)

pub returns-in_err-n : goal.returns-in_err-n
unfolding read_pupil_text
returns-in_err-n c =
    c.from_residual.ensures ∙ yes _ (eq-eqb _ _ c.if-s-ne5.false)
    (yes _ (sym c.is_marked.ensures ∙ c.if-not-is_marked.false) (at (signed_in _) (sym c.read_decimal.ensures ∙ c.in_err-n.was) refl))

pub returns : goal.returns
unfolding read_pupil_text
returns c =
    yes _ (eq-eqb _ _ c.if-s-ne5.false)
    (yes _ (sym c.is_marked.ensures ∙ c.if-not-is_marked.false) (at (signed_in _) (sym c.read_decimal.ensures ∙ c.in_ok-n.was) c.signed_field.ensures))
