-- `digits::split` meets its contract: four steps leave the remainder by 256 p - 1, in which a number below 10 p has its digit and its rest. Assumes nothing.
use Rattle.std.proofs.Common.{◌≡◌, ℕ, ◌-◌, ◌*◌, ◌/◌, ◌%◌, ◌^◌, ◌<◌, ◌≤◌, ap, ◌∙◌, mod-lt, arith}
use native.Mathlib.Nat.{pow-succ'}
use Rattle.digits.proofs.Powers.{counted, steps, power_some, power_most}
use Rattle.digits.proofs.split.Tie as tie
use Rattle.digits.proofs.split.Lts as lts
use Rattle.digits.proofs.split.Goals as goal

abbrev After-power : Type 0
After-power = lts.After-power tie.the-claims tie.handed_pre tie.handed_post

-- the power that was given, its bounds, and what the number is below
some : (c : After-power) → 0 < c.power.result
some c = rw c.power.ensures (power_some c.args.zeros)

most : (c : After-power) → c.power.result ≤ 10 ^ 6
most c = rw c.power.ensures (power_most c.args.zeros 6 (omega arith))

near : (c : After-power) → c.args.x / 256 < 10 * c.power.result
near c = rw (c.power.ensures, ← pow-succ' 10 c.args.zeros) c.requires.2

-- a remainder is below what it was left by
under : (y x m : ℕ) → y ≡ x % m → 0 < m → y < m
under y x m e h = rw e (mod-lt x h)

pub overflow_mul-part : goal.overflow_mul-part
overflow_mul-part c = omega (arith, most c)

pub overflow_sub-part : goal.overflow_sub-part
overflow_sub-part c = omega (arith, some c)

pub overflow_mul-part-2 : goal.overflow_mul-part-2
overflow_mul-part-2 c = omega (arith, most c)

pub without-below_eight-requires : goal.without-below_eight-requires
without-below_eight-requires c = (omega (arith, near c, some c), omega (arith, most c))

pub overflow_mul-part-3 : goal.overflow_mul-part-3
overflow_mul-part-3 c = omega (arith, most c.before)

pub without-below_four-requires : goal.without-below_four-requires
without-below_four-requires c = (omega (arith, under _ _ _ c.without-below_eight.ensures (omega (arith, some c.before))), omega (arith, most c.before))

pub overflow_mul-part-4 : goal.overflow_mul-part-4
overflow_mul-part-4 c = omega (arith, most c.before.before)

pub without-below_two-requires : goal.without-below_two-requires
without-below_two-requires c = (omega (arith, under _ _ _ c.without-below_four.ensures (omega (arith, some c.before.before))), omega (arith, most c.before.before))

pub without-requires : goal.without-requires
without-requires c =
    (omega (arith, under _ _ _ c.without-below_two.ensures (omega (arith, some c.before.before.before))), omega (arith, most c.before.before.before))

pub returns : goal.returns
returns c =
    let third = c.before in
    let second = third.before in
    let first = second.before in
    let p = first.before in
    let s = p.before in
    let x = s.args.x in
    let e : x ≡ 256 * (x / 256) = omega arith in
    c.without.ensures
    ∙ rw (third.without-below_two.ensures, second.without-below_four.ensures, first.without-below_eight.ensures) (steps x (256 * p.power.result - 1))
    ∙ ap (λ (y : ℕ). y % (256 * p.power.result - 1)) e
    ∙ counted (x / 256) p.power.result (some p) (near p)
    ∙ rw p.power.ensures
