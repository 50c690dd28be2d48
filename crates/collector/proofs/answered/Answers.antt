-- `collector::answered` meets its contract: its tests are those of `collected`. Assumes nothing.
use Prim.Native.Nat.{ℕ}
use mathlib.Core.Bool.{false}
use mathlib.Core.Path.{refl, sym, ap, ap₂, ◌∙◌}
use Rattle.laws.proofs.Tests.{yes, no}
use Rattle.line.specs.declared.Line.{Line}
use Rattle.collector.specs.declared.Collected.{Collected}
use Rattle.collector.specs.Collect.{collected}
use Rattle.collector.proofs.answered.Goals as goal

-- no line ended
abbrev none : ℕ → Line → Collected
none n l = record { number = n; ended = false; line = l }

pub returns-then-not-is_valid : goal.returns-then-not-is_valid
unfolding collected
returns-then-not-is_valid c =
    let v = c.before.before in
    no _ (sym v.is_valid.ensures ∙ v.if-not-is_valid.true) (ap₂ none c.number_of.ensures c.blank.ensures)

pub returns-then-ends : goal.returns-then-ends
unfolding collected
returns-then-ends c =
    let e = c.before in
    let v = e.before in
    yes _ (sym v.is_valid.ensures ∙ v.if-not-is_valid.false) (yes _ (sym e.ends.ensures ∙ c.if-ends.true) refl)

pub returns : goal.returns
unfolding collected
returns c =
    let e = c.before.before in
    let v = e.before in
    yes _ (sym v.is_valid.ensures ∙ v.if-not-is_valid.false)
    (no _ (sym e.ends.ensures ∙ c.if-ends.false) (ap (none 0) c.blank-2.ensures))
