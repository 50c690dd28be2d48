-- `record::lowest_back` meets its contract: each `return` is a step of the chain. Assumes nothing.
use Prim.Native.Nat.{ℕ}
use mathlib.Core.Path.{◌≡◌, sym, ap, ◌∙◌}
use lib.Dec.{leb}
use mir.Syntax.{w32}
use mir.Val.{to_z, of_z}
use mir.Facts.{to_z-of_z}
use borrow.Author.Tests.{le-leb, lt-leb}
use Rattle.sign.specs.Sign.{size}
use Rattle.codec.proofs.Lowest.{wrong_here, right_here, wrong_last, right_last}
use Rattle.record.specs.Record.{back_lowest}
use borrow.Author.Rules.{rules}
use Rattle.record.proofs.lowest_back.Tie as tie
use Rattle.record.proofs.lowest_back.Lts as lts
use Rattle.record.proofs.lowest_back.Goals as goal

abbrev After-size_of : Type 0
After-size_of = lts.After-size_of tie.the-claims tie.handed_pre tie.handed_post

pub returns-then-f-gt4095 : goal.returns-then-f-gt4095
unfolding back_lowest
returns-then-f-gt4095 c = wrong_here 8 _ (lt-leb _ _ c.if-f-gt4095.true)

-- the size is the pupil's own
same : (c : After-size_of) → c.size_of.result ≡ size c.args.f.pupil
same c =
    let z = c.args.f.pupil in
    let e : to_z w32 (of_z w32 z) ≡ z = to_z-of_z {w = mir.Syntax.w32} (search rules) in
    c.size_of.ensures ∙ ap size e

pub returns-then-most-size_of : goal.returns-then-most-size_of
unfolding back_lowest
returns-then-most-size_of c =
    let most = c.args.most in
    right_here 9 _ (le-leb _ _ c.if-f-gt4095.false)
    (wrong_here 9 _ (ap (λ (n : ℕ). leb n most) (sym (same c.before)) ∙ lt-leb _ _ c.if-most-size_of.true))

pub returns-then-f-gt1000 : goal.returns-then-f-gt1000
unfolding back_lowest
returns-then-f-gt1000 c =
    let most = c.args.most in
    right_here 9 _ (le-leb _ _ c.if-f-gt4095.false)
    (right_here 10 _ (ap (λ (n : ℕ). leb n most) (sym (same c.before.before.before)) ∙ le-leb _ _ c.if-most-size_of.false) (wrong_last 10 (lt-leb _ _ c.if-f-gt1000.true)))

pub returns : goal.returns
unfolding back_lowest
returns c =
    let most = c.args.most in
    right_here 9 _ (le-leb _ _ c.if-f-gt4095.false)
    (right_here 10 _ (ap (λ (n : ℕ). leb n most) (sym (same c.before.before.before)) ∙ le-leb _ _ c.if-most-size_of.false) (right_last 11 (le-leb _ _ c.if-f-gt1000.false)))
