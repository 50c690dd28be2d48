-- `digits::held` meets its contract: before each turn it holds what n is below the power with `zeros` zeros. Assumes nothing.
use Rattle.std.proofs.Common.{◌≡◌, ℕ, suc, ◌-◌, ◌*◌, ◌%◌, ◌^◌, ◌<◌, sym, ap, ◌∙◌, mod-eq_of_lt, arith}
use Rattle.digits.proofs.Powers.{may_split, splits, power_most}
use Rattle.digits.proofs.held.Goals as goal

-- a number below the power
below : (c : goal.Then-n-power) → c.args.n < 10 ^ c.args.width
below c = rw c.power.ensures at c.if-n-power.true

pub overflow_mul-result : goal.overflow_mul-result
overflow_mul-result c =
    let width = c.args.width in
    omega (arith, below c, power_most width 7 (omega arith))

pub returns-then-n-power : goal.returns-then-n-power
returns-then-n-power c = ap (λ (m : ℕ). 256 * m) (sym (mod-eq_of_lt (below c)))

-- what the places above the next one leave of n
above : (n x zeros : ℕ) → 0 < zeros → x ≡ 256 * (n % 10 ^ zeros) → x ≡ 256 * (n % 10 ^ suc (zeros - 1))
above n x zeros some h =
    let e : zeros ≡ suc (zeros - 1) = omega arith in
    rw (← e) h

pub split-requires : goal.split-requires
split-requires c = may_split c.args.n _ _ (omega arith) (above _ _ _ (omega arith) c.loop-zeros.invariant.1)

pub loop-zeros-preserved : goal.loop-zeros-preserved
loop-zeros-preserved c =
    let left = (splits c.args.n _ _ _ (above _ _ _ (omega arith) c.loop-zeros.invariant.1) c.split.ensures).1 in
    (omega arith, c.uncounted-x.ensures ∙ ap (λ (m : ℕ). 256 * m) left)

pub returns : goal.returns
returns c =
    let l = c.loop-zeros in
    let e : l.zeros ≡ c.args.width = omega arith in
    rw (← e) l.invariant.1
