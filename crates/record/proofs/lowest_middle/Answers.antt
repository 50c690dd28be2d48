-- `record::lowest_middle` meets its contract: each `return` is a step of the chain. Assumes nothing.
use borrow.Author.Tests.{le-leb, lt-leb}
use Rattle.codec.proofs.Lowest.{wrong_here, right_here, wrong_last, right_last}
use Rattle.record.specs.Record.{middle_lowest}
use Rattle.record.proofs.lowest_middle.Goals as goal

pub returns-then-f-gt1023 : goal.returns-then-f-gt1023
unfolding middle_lowest
returns-then-f-gt1023 c = wrong_here 4 _ (lt-leb _ _ c.if-f-gt1023.true)

pub returns-then-top-f : goal.returns-then-top-f
unfolding middle_lowest
returns-then-top-f c = right_here 5 _ (le-leb _ _ c.if-f-gt1023.false) (wrong_here 5 _ (lt-leb _ _ c.if-top-f.true))

pub returns-then-top-f-2 : goal.returns-then-top-f-2
unfolding middle_lowest
returns-then-top-f-2 c =
    right_here 5 _ (le-leb _ _ c.if-f-gt1023.false)
    (right_here 6 _ (le-leb _ _ c.if-top-f.false) (wrong_here 6 _ (lt-leb _ _ c.if-top-f-2.true)))

pub returns-then-top-f-3 : goal.returns-then-top-f-3
unfolding middle_lowest
returns-then-top-f-3 c =
    right_here 5 _ (le-leb _ _ c.if-f-gt1023.false)
    (right_here 6 _ (le-leb _ _ c.if-top-f.false)
    (right_here 7 _ (le-leb _ _ c.if-top-f-2.false) (wrong_last 7 (lt-leb _ _ c.if-top-f-3.true))))

pub returns : goal.returns
unfolding middle_lowest
returns c =
    right_here 5 _ (le-leb _ _ c.if-f-gt1023.false)
    (right_here 6 _ (le-leb _ _ c.if-top-f.false)
    (right_here 7 _ (le-leb _ _ c.if-top-f-2.false) (right_last 8 (le-leb _ _ c.if-top-f-3.false))))
