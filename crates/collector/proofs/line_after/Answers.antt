-- `collector::line_after` meets its contract: its tests are those of `line_after`. Assumes nothing.
use mathlib.Core.Path.{refl, sym, ◌∙◌}
use Rattle.laws.proofs.Tests.{yes, no}
use Rattle.collector.specs.Collect.{line_after}
use Rattle.collector.proofs.line_after.Goals as goal

pub returns-then-not-is_valid : goal.returns-then-not-is_valid
unfolding line_after
returns-then-not-is_valid c = no _ (sym c.is_valid.ensures ∙ c.if-not-is_valid.true) refl

pub returns-then-ends : goal.returns-then-ends
unfolding line_after
returns-then-ends c =
    let e = c.before.before in
    let v = e.before in
    yes _ (sym v.is_valid.ensures ∙ v.if-not-is_valid.false) (yes _ (sym e.ends.ensures ∙ c.if-ends.true) c.blank.ensures)

pub returns : goal.returns
unfolding line_after
returns c =
    let e = c.before.before in
    let v = e.before in
    yes _ (sym v.is_valid.ensures ∙ v.if-not-is_valid.false) (no _ (sym e.ends.ensures ∙ c.if-ends.false) c.joined.ensures)
