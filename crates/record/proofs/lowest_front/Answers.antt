-- `record::lowest_front` meets its contract: each `return` is a step of the chain. Assumes nothing.
use mathlib.Core.Path.{sym, ◌∙◌}
use borrow.Author.Tests.{le-leb, lt-leb}
use Rattle.codec.proofs.Lowest.{wrong_here, right_here, wrong_last, right_last}
use Rattle.record.specs.Record.{front_lowest}
use Rattle.record.proofs.lowest_front.Goals as goal

pub returns-then-top-f : goal.returns-then-top-f
unfolding front_lowest
returns-then-top-f c = wrong_here 0 _ (lt-leb _ _ c.if-top-f.true)

pub returns-then-f-gt4095 : goal.returns-then-f-gt4095
unfolding front_lowest
returns-then-f-gt4095 c = right_here 1 _ (le-leb _ _ c.if-top-f.false) (wrong_here 1 _ (lt-leb _ _ c.if-f-gt4095.true))

pub returns-then-not-stop_ok : goal.returns-then-not-stop_ok
unfolding front_lowest
returns-then-not-stop_ok c =
    right_here 1 _ (le-leb _ _ c.if-top-f.false)
    (right_here 2 _ (le-leb _ _ c.if-f-gt4095.false) (wrong_here 2 _ (sym c.stop_ok.ensures ∙ c.if-not-stop_ok.true)))

pub returns-then-f-gt9 : goal.returns-then-f-gt9
unfolding front_lowest
returns-then-f-gt9 c =
    right_here 1 _ (le-leb _ _ c.if-top-f.false)
    (right_here 2 _ (le-leb _ _ c.if-f-gt4095.false)
    (right_here 3 _ (sym c.stop_ok.ensures ∙ c.if-not-stop_ok.false) (wrong_last 3 (lt-leb _ _ c.if-f-gt9.true))))

pub returns : goal.returns
unfolding front_lowest
returns c =
    right_here 1 _ (le-leb _ _ c.if-top-f.false)
    (right_here 2 _ (le-leb _ _ c.if-f-gt4095.false)
    (right_here 3 _ (sym c.stop_ok.ensures ∙ c.if-not-stop_ok.false) (right_last 4 (le-leb _ _ c.if-f-gt9.false))))
