-- `fixed::lowest_item` meets its contract: each `return` is a step of the chain. Assumes nothing.
use mathlib.Core.Path.{sym, ◌∙◌}
use Rattle.codec.proofs.Lowest.{wrong_here, right_here, some_here, none_here, wrong_last, right_last}
use Rattle.fixed.specs.Fixed.{fixed_lowest}
use Rattle.fixed.proofs.lowest_item.Goals as goal

pub returns-then-not-is_item : goal.returns-then-not-is_item
unfolding fixed_lowest
returns-then-not-is_item c = wrong_here 0 _ (sym c.is_item.ensures ∙ c.if-not-is_item.true)

pub returns-then-not-is_item-2 : goal.returns-then-not-is_item-2
unfolding fixed_lowest
returns-then-not-is_item-2 c =
    right_here 1 _ (sym c.is_item.ensures ∙ c.if-not-is_item.false)
    (wrong_here 1 _ (sym c.is_item-2.ensures ∙ c.if-not-is_item-2.true))

pub returns-then-is_some : goal.returns-then-is_some
unfolding fixed_lowest
returns-then-is_some c =
    right_here 1 _ (sym c.is_item.ensures ∙ c.if-not-is_item.false)
    (right_here 2 _ (sym c.is_item-2.ensures ∙ c.if-not-is_item-2.false)
    (some_here _ _ c.lowest_of_lens-lowest.ensures (sym c.is_some.ensures ∙ c.if-is_some.true)))

pub returns-then-not-is_item-3 : goal.returns-then-not-is_item-3
unfolding fixed_lowest
returns-then-not-is_item-3 c =
    right_here 1 _ (sym c.is_item.ensures ∙ c.if-not-is_item.false)
    (right_here 2 _ (sym c.is_item-2.ensures ∙ c.if-not-is_item-2.false)
    (none_here _ _ c.lowest_of_lens-lowest.ensures (sym c.is_some.ensures ∙ c.if-is_some.false)
    (wrong_last 7 (sym c.is_item-3.ensures ∙ c.if-not-is_item-3.true))))

pub returns : goal.returns
unfolding fixed_lowest
returns c =
    right_here 1 _ (sym c.is_item.ensures ∙ c.if-not-is_item.false)
    (right_here 2 _ (sym c.is_item-2.ensures ∙ c.if-not-is_item-2.false)
    (none_here _ _ c.lowest_of_lens-lowest.ensures (sym c.is_some.ensures ∙ c.if-is_some.false)
    (right_last 8 (sym c.is_item-3.ensures ∙ c.if-not-is_item-3.false))))
