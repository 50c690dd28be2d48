-- `layout::twos_of` meets its contract: by the sign. Assumes nothing.
use Prim.Native.Nat.{ℕ, ◌-◌, ◌<◌}
use mathlib.Core.Bool.{true, false, false≢true}
use mathlib.Core.Path.{◌≡◌, refl, sym, ap, ◌∙◌}
use native.Mathlib.Omega.{arith}
use lib.IntN.{ℤ, pos, negsuc}
use mir.Syntax.{w32}
use mir.Val.{to_z, of_z}
use mir.Facts.{to_z-of_z}
use Rattle.sign.specs.Sign.{size, below0}
use Rattle.layout.specs.Layout.{twos}
use Rattle.layout.proofs.twos_of.Tie as tie
use Rattle.layout.proofs.twos_of.Lts as lts
use Rattle.layout.proofs.twos_of.Goals as goal

abbrev After-is_below : Type 0
After-is_below = lts.After-is_below tie.the-claims tie.handed_pre tie.handed_post

abbrev After-size_of : Type 0
After-size_of = lts.After-size_of tie.the-claims tie.handed_pre tie.handed_post

abbrev Start : Type 0
Start = lts.Start tie.the-claims tie.handed_pre tie.handed_post

positive : (z : ℤ) → below0 z ≡ true → 0 < size z
positive (pos n) e = absurd (false≢true e)
positive (negsuc n) e = omega arith

minus : (z : ℤ) → below0 z ≡ true → 4294967295 - (size z - 1) ≡ twos z
unfolding twos
minus (pos n) e = absurd (false≢true e)
minus (negsuc n) e = omega arith

plus : (z : ℤ) → below0 z ≡ false → size z ≡ twos z
unfolding twos
plus (pos n) e = refl
plus (negsuc n) e = absurd (false≢true (sym e))

-- the number that the calls take is the caller's own
own : (b : Start) → to_z w32 (of_z w32 b.args.e) ≡ b.args.e
own b = to_z-of_z b.ranges.e

sign : (c : After-is_below) → c.is_below.result ≡ below0 c.args.e
sign c = c.is_below.ensures ∙ ap below0 (own c.before)

sized : (c : After-size_of) → c.size_of.result ≡ size c.args.e
sized c = c.size_of.ensures ∙ ap size (own c.before.before.before)

pub overflow_sub-result : goal.overflow_sub-result
overflow_sub-result c =
    omega (arith, sized c, positive c.args.e (sym (sign c.before.before) ∙ c.if-is_below.true))

pub returns-then-is_below : goal.returns-then-is_below
returns-then-is_below c =
    ap (λ (n : ℕ). 4294967295 - (n - 1)) (sized c) ∙ minus _ (sym (sign c.before.before) ∙ c.if-is_below.true)

pub returns : goal.returns
returns c =
    c.size_of-2.ensures ∙ ap size (own c.before.before.before) ∙ plus _ (sym (sign c.before.before) ∙ c.if-is_below.false)
