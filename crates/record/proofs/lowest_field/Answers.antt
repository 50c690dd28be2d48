-- `record::lowest_field` meets its contract: the figures, then the serial. Assumes nothing.
use mathlib.Core.Path.{◌≡◌, sym, ◌∙◌}
use lib.ListN.{length}
use Rattle.codec.proofs.Texts.{text_fine}
use Rattle.codec.proofs.Lowest.{some_here, none_here, wrong_last, right_last}
use Rattle.record.specs.Record.{record_lowest}
use borrow.Author.Rules.{rules}
use Rattle.record.proofs.lowest_field.Goals as goal

pub returns-then-is_some : goal.returns-then-is_some
unfolding record_lowest
returns-then-is_some c = some_here _ _ c.lowest_figure-lowest.ensures (sym c.is_some.ensures ∙ c.if-is_some.true)

pub returns-then-not-is_text : goal.returns-then-not-is_text
unfolding record_lowest
returns-then-not-is_text c =
    let long : length c.args.r.serial ≡ 9 = search rules in
    none_here _ _ c.lowest_figure-lowest.ensures (sym c.is_some.ensures ∙ c.if-is_some.false)
    (wrong_last 11 (sym (text_fine 9 c.args.r.serial long c.is_text.ensures) ∙ c.if-not-is_text.true))

pub returns : goal.returns
unfolding record_lowest
returns c =
    let long : length c.args.r.serial ≡ 9 = search rules in
    none_here _ _ c.lowest_figure-lowest.ensures (sym c.is_some.ensures ∙ c.if-is_some.false)
    (right_last 12 (sym (text_fine 9 c.args.r.serial long c.is_text.ensures) ∙ c.if-not-is_text.false))
