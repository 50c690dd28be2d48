-- `frame::open` meets its contract: each `return` is a case of `opening`. Assumes nothing.
use Prim.Native.Nat.{ℕ, ◌+◌, ◌≤◌}
use mathlib.Core.Bool.{Bool, true, false}
use mathlib.Core.Path.{◌≡◌, refl, sym, ◌∙◌}
use native.Mathlib.Omega.{arith}
use borrow.Author.Tests.{eqb-true, not-true, not-false}
use lib.Dec.{eqb}
use lib.ListN.{length}
use Rattle.laws.proofs.Tests.{yes, no, never}
use Rattle.frame.specs.Frame.{ending_width, opening}
use Rattle.frame.proofs.open.Tie as tie
use Rattle.frame.proofs.open.Lts as lts
use Rattle.frame.proofs.open.Goals as goal

abbrev Else1 : Type 0
Else1 = lts.Else1 tie.the-claims tie.handed_pre tie.handed_post

-- how long a message is that passed the first test
two : (n w : ℕ) (checksum : Bool) → n ≡ w + ending_width checksum → 2 ≤ n
two n w true e = omega arith
two n w false e = omega arith

four : (n w : ℕ) (checksum : Bool) → n ≡ w + ending_width checksum → checksum ≡ true → w + 2 ≤ n
four n w true e on = omega arith
four n w false e on = never (cc)

pub returns-then-not-has_length : goal.returns-then-not-has_length
unfolding opening
returns-then-not-has_length c = no _ (sym c.has_length.ensures ∙ c.if-not-has_length.true) refl

-- the three tests, as they were passed
long : (c : Else1) → eqb (length c.args.m.now) (c.args.width + ending_width c.args.checksum) ≡ true
long c = sym c.has_length.ensures ∙ c.if-not-has_length.false

pub is_ended-requires : goal.is_ended-requires
is_ended-requires c =
    let a = c.args in
    two (length a.m.now) a.width a.checksum (eqb-true _ _ (long c.before))

pub returns-then-not-is_ended : goal.returns-then-not-is_ended
unfolding opening
returns-then-not-is_ended c = yes _ (long c.before.before.before) (no _ (sym c.is_ended.ensures ∙ c.if-not-is_ended.true) refl)

pub returns-then-not-checksum : goal.returns-then-not-checksum
unfolding opening
returns-then-not-checksum c =
    let a = c.args in
    yes _ (long c.before.before.before.before) (yes _ (sym c.is_ended.ensures ∙ c.if-not-is_ended.false) (no _ (not-true a.checksum c.if-not-checksum.true-raw) refl))

pub is_summed-requires : goal.is_summed-requires
is_summed-requires c =
    let a = c.args in
    four (length a.m.now) a.width a.checksum (eqb-true _ _ (long c.before.before.before.before)) (c.if-not-checksum.false)

pub returns-then-not-is_summed : goal.returns-then-not-is_summed
unfolding opening
returns-then-not-is_summed c =
    let a = c.args in
    yes _ (long c.before.before.before.before.before.before)
    (yes _ (sym c.is_ended.ensures ∙ c.if-not-is_ended.false)
    (yes _ (not-false a.checksum c.if-not-checksum.false-raw) (no _ (sym c.is_summed.ensures ∙ c.if-not-is_summed.true) refl)))

pub returns : goal.returns
unfolding opening
returns c =
    let a = c.args in
    yes _ (long c.before.before.before.before.before.before)
    (yes _ (sym c.is_ended.ensures ∙ c.if-not-is_ended.false)
    (yes _ (not-false a.checksum c.if-not-checksum.false-raw) (yes _ (sym c.is_summed.ensures ∙ c.if-not-is_summed.false) refl)))
