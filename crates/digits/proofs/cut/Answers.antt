-- `digits::cut` meets its contract: what was taken away is counted above, and what is left is below `times` times 10^7. Assumes nothing.
use Rattle.std.proofs.Common.{◌≡◌, ◌+◌, ◌-◌, ◌*◌, ◌/◌, ◌^◌, ◌<◌, ⊎_elim, arith}
use Rattle.digits.proofs.cut.Goals as goal

-- a turn takes half of them away, where they fit
abbrev Halved : goal.Joined-half-low → Type 0
Halved c =
    let l = c.loop-times in
    (10 ^ 7 * c.if-half-low.high + c.if-half-low.low ≡ c.args.n) × (c.if-half-low.low < 10 ^ 7 * (l.times - l.times / 2))

halved : (c : goal.Joined-half-low) → Halved c
halved c = ⊎_elim {C = Halved c} (λ w. (omega arith, omega arith)) (λ w. (omega arith, omega arith)) c.if-half-low.branch-raw

pub loop-times-init : goal.loop-times-init
loop-times-init c = (omega arith, omega arith, omega arith, omega arith)

pub overflow_mul-half : goal.overflow_mul-half
overflow_mul-half c = omega arith

pub overflow_mul-low : goal.overflow_mul-low
overflow_mul-low c = omega arith

pub overflow_sub-low : goal.overflow_sub-low
overflow_sub-low c = omega arith

pub overflow_add-high : goal.overflow_add-high
overflow_add-high c = omega arith

pub overflow_sub-times : goal.overflow_sub-times
overflow_sub-times c = omega arith

pub loop-times-smaller : goal.loop-times-smaller
loop-times-smaller c = omega arith

pub loop-times-preserved : goal.loop-times-preserved
loop-times-preserved c = ((halved c).0, (halved c).1, omega arith, omega arith)

pub returns : goal.returns
returns c = (omega arith, omega arith)
