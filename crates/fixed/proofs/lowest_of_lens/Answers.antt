-- `fixed::lowest_of_lens` meets its contract: each `return` is a step of the chain. Assumes nothing.
use mathlib.Core.Path.{sym, ◌∙◌}
use borrow.Author.Tests.{le-leb, lt-leb}
use Rattle.codec.proofs.Lowest.{wrong_here, right_here, wrong_last, right_last}
use Rattle.fixed.specs.Fixed.{lens_lowest}
use Rattle.fixed.proofs.lowest_of_lens.Goals as goal

pub returns-then-not-is_kind : goal.returns-then-not-is_kind
unfolding lens_lowest
returns-then-not-is_kind c = wrong_here 2 _ (sym c.is_kind.ensures ∙ c.if-not-is_kind.true)

pub returns-then-l-gt999 : goal.returns-then-l-gt999
unfolding lens_lowest
returns-then-l-gt999 c =
    right_here 3 _ (sym c.is_kind.ensures ∙ c.if-not-is_kind.false) (wrong_here 3 _ (lt-leb _ _ c.if-l-gt999.true))

pub returns-then-l-gt999-2 : goal.returns-then-l-gt999-2
unfolding lens_lowest
returns-then-l-gt999-2 c =
    right_here 3 _ (sym c.is_kind.ensures ∙ c.if-not-is_kind.false)
    (right_here 4 _ (le-leb _ _ c.if-l-gt999.false) (wrong_here 4 _ (lt-leb _ _ c.if-l-gt999-2.true)))

pub returns-then-not-is_letter : goal.returns-then-not-is_letter
unfolding lens_lowest
returns-then-not-is_letter c =
    right_here 3 _ (sym c.is_kind.ensures ∙ c.if-not-is_kind.false)
    (right_here 4 _ (le-leb _ _ c.if-l-gt999.false)
    (right_here 5 _ (le-leb _ _ c.if-l-gt999-2.false) (wrong_here 5 _ (sym c.is_letter.ensures ∙ c.if-not-is_letter.true))))

pub returns-then-l-gt99 : goal.returns-then-l-gt99
unfolding lens_lowest
returns-then-l-gt99 c =
    right_here 3 _ (sym c.is_kind.ensures ∙ c.if-not-is_kind.false)
    (right_here 4 _ (le-leb _ _ c.if-l-gt999.false)
    (right_here 5 _ (le-leb _ _ c.if-l-gt999-2.false)
    (right_here 6 _ (sym c.is_letter.ensures ∙ c.if-not-is_letter.false) (wrong_last 6 (lt-leb _ _ c.if-l-gt99.true)))))

pub returns : goal.returns
unfolding lens_lowest
returns c =
    right_here 3 _ (sym c.is_kind.ensures ∙ c.if-not-is_kind.false)
    (right_here 4 _ (le-leb _ _ c.if-l-gt999.false)
    (right_here 5 _ (le-leb _ _ c.if-l-gt999-2.false)
    (right_here 6 _ (sym c.is_letter.ensures ∙ c.if-not-is_letter.false) (right_last 7 (le-leb _ _ c.if-l-gt99.false)))))
