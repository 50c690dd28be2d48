-- `messages::degrees_of` meets its contract: a return for each case, by the law of that case. Assumes nothing.
use Prim.Native.Nat.{ℕ, ◌≤◌, ◌<◌}
use mathlib.Core.Path.{◌≡◌, sym, ap, subst, ◌∙◌}
use mir.Syntax.{w32}
use mir.Val.{to_z, of_z}
use mir.Facts.{to_z-of_z}
use Rattle.laws.specs.Over.{over}
use Rattle.digits.specs.Digits.{digits, decimal}
use Rattle.sign.specs.Sign.{size, below0}
use Rattle.units.proofs.Degrees.{degrees_cold, degrees_mild, degrees_hot}
use Rattle.messages.proofs.degrees_of.Tie as tie
use Rattle.messages.proofs.degrees_of.Lts as lts
use Rattle.messages.proofs.degrees_of.Goals as goal

abbrev After-is_below : Type 0
After-is_below = lts.After-is_below tie.the-claims tie.handed_pre tie.handed_post

abbrev After-size_of : Type 0
After-size_of = lts.After-size_of tie.the-claims tie.handed_pre tie.handed_post

abbrev Start : Type 0
Start = lts.Start tie.the-claims tie.handed_pre tie.handed_post

-- the number that the calls take is the caller's own
own : (b : Start) → to_z w32 (of_z w32 b.args.t) ≡ b.args.t
own b = to_z-of_z b.ranges.t

sized : (c : After-size_of) → c.size_of-n.result ≡ size c.args.t
sized c = c.size_of-n.ensures ∙ ap size (own c.before.before.before)

below : (c : After-is_below) → c.is_below.result ≡ below0 c.args.t
below c = c.is_below.ensures ∙ ap below0 (own c.before)

pub returns-then-is_below : goal.returns-then-is_below
returns-then-is_below c =
    sym (degrees_cold _ (sym (below c.before.before.before) ∙ c.if-is_below.true))

-- the digits fill the pair
pub returns-then-n-le99 : goal.returns-then-n-le99
unfolding over digits
returns-then-n-le99 c =
    let e = sized c.before.before.before.before.before.before in
    let law = degrees_mild _ (sym (below c.before.before.before.before.before.before.before.before) ∙ c.if-is_below.false) (subst (λ (k : ℕ). k ≤ 99) e c.if-n-le99.true) in
    c.put_decimal.ensures ∙ ap (decimal 2) e ∙ sym law

pub returns-else-n-le99 : goal.returns-else-n-le99
unfolding digits
returns-else-n-le99 c =
    sym (degrees_hot _ (sym (below c.before.before.before.before.before) ∙ c.if-is_below.false) (subst (λ (k : ℕ). 99 < k) (sized c.before.before.before) c.if-n-le99.false))
