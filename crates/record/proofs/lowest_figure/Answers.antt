-- `record::lowest_figure` meets its contract: the first group that has a field out of range. Assumes nothing.
use mathlib.Core.Path.{sym, ◌∙◌}
use Rattle.codec.proofs.Lowest.{some_here, none_here}
use Rattle.record.specs.Record.{figures_lowest}
use Rattle.record.proofs.lowest_figure.Goals as goal

pub returns-then-is_some : goal.returns-then-is_some
unfolding figures_lowest
returns-then-is_some c = some_here _ _ c.lowest_front-front.ensures (sym c.is_some.ensures ∙ c.if-is_some.true)

pub returns-then-is_some-2 : goal.returns-then-is_some-2
unfolding figures_lowest
returns-then-is_some-2 c =
    none_here _ _ c.lowest_front-front.ensures (sym c.is_some.ensures ∙ c.if-is_some.false)
    (some_here _ _ c.lowest_middle-middle.ensures (sym c.is_some-2.ensures ∙ c.if-is_some-2.true))

pub returns : goal.returns
unfolding figures_lowest
returns c =
    none_here _ _ c.lowest_front-front.ensures (sym c.is_some.ensures ∙ c.if-is_some.false)
    (none_here _ _ c.lowest_middle-middle.ensures (sym c.is_some-2.ensures ∙ c.if-is_some-2.false) c.lowest_back.ensures)
