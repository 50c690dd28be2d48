-- `fixed::lowest_setting` meets its contract: the fixed data, then the names and the table. Assumes nothing.
use mathlib.Core.Path.{◌≡◌, sym, ◌∙◌}
use borrow.Author.Rules.{rules}
use lib.ListN.{length}
use Rattle.codec.proofs.Lowest.{wrong_here, right_here, some_here, none_here, wrong_last, right_last}
use Rattle.fixed.specs.Fixed.{settings_lowest}
use Rattle.fixed.proofs.Fine.{table_fine}
use Rattle.fixed.proofs.lowest_setting.Goals as goal

pub returns-then-is_some : goal.returns-then-is_some
unfolding settings_lowest
returns-then-is_some c = some_here _ _ c.lowest_item-lowest.ensures (sym c.is_some.ensures ∙ c.if-is_some.true)

pub returns-then-not-is_item : goal.returns-then-not-is_item
unfolding settings_lowest
returns-then-not-is_item c =
    none_here _ _ c.lowest_item-lowest.ensures (sym c.is_some.ensures ∙ c.if-is_some.false)
    (wrong_here 8 _ (sym c.is_item.ensures ∙ c.if-not-is_item.true))

pub returns-then-not-is_item-2 : goal.returns-then-not-is_item-2
unfolding settings_lowest
returns-then-not-is_item-2 c =
    none_here _ _ c.lowest_item-lowest.ensures (sym c.is_some.ensures ∙ c.if-is_some.false)
    (right_here 9 _ (sym c.is_item.ensures ∙ c.if-not-is_item.false)
    (wrong_here 9 _ (sym c.is_item-2.ensures ∙ c.if-not-is_item-2.true)))

-- 32 circles, by type, so only their range is tested
pub returns-then-not-is_blur : goal.returns-then-not-is_blur
unfolding settings_lowest
returns-then-not-is_blur c =
    let long : length c.args.s.blur ≡ 32 = search rules in
    none_here _ _ c.lowest_item-lowest.ensures (sym c.is_some.ensures ∙ c.if-is_some.false)
    (right_here 9 _ (sym c.is_item.ensures ∙ c.if-not-is_item.false)
    (right_here 10 _ (sym c.is_item-2.ensures ∙ c.if-not-is_item-2.false)
    (wrong_last 10 (sym (table_fine c.args.s.blur long c.is_blur.ensures) ∙ c.if-not-is_blur.true))))

pub returns : goal.returns
unfolding settings_lowest
returns c =
    let long : length c.args.s.blur ≡ 32 = search rules in
    none_here _ _ c.lowest_item-lowest.ensures (sym c.is_some.ensures ∙ c.if-is_some.false)
    (right_here 9 _ (sym c.is_item.ensures ∙ c.if-not-is_item.false)
    (right_here 10 _ (sym c.is_item-2.ensures ∙ c.if-not-is_item-2.false)
    (right_last 11 (sym (table_fine c.args.s.blur long c.is_blur.ensures) ∙ c.if-not-is_blur.false))))
