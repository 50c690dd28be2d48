-- `digits::put_block` meets its contract: before each turn so many digits are still to write as the width has at most `zeros`, and x holds what they say.
-- Assumes nothing.
use Rattle.std.proofs.Common.{◌≡◌, ℕ, suc, ◌+◌, ◌-◌, ◌*◌, ◌/◌, ◌%◌, ◌^◌, ◌<◌, ◌≤◌, min, List, length, set, sym, ap, ◌∙◌, subst, arith}
use native.Mathlib.Nat.{min-eq_left, min-eq_right}
use Rattle.laws.specs.Over.{over}
use Rattle.digits.specs.Digits.{decimal}
use Rattle.digits.proofs.FromTheEnd.{none, one}
use Rattle.digits.proofs.Powers.{may_split, splits, turn}
use Rattle.digits.proofs.put_block.Invariants.{Left}
use Rattle.digits.proofs.put_block.Goals as goal

-- the digit of the place with k zeros stored, and the k below it written behind it
next : (out : List ℕ) (at width n v : ℕ) → at + width ≤ length out → (k : ℕ) → k < width → v ≡ 48 + n / 10 ^ k % 10 →
    over (set out (at + (width - 1) - k) v) (at + (width - k)) (decimal k n) ≡ over out (at + (width - suc k)) (decimal (suc k) n)
next out at width n v room k h e =
    let i : at + (width - 1) - k ≡ at + (width - suc k) = omega arith in
    let j : at + (width - k) ≡ at + (width - suc k) + 1 = omega arith in
    rw (i, j) (turn out (at + (width - suc k)) v k n (omega arith) e)

-- no digit, and nothing written
nothing : (d : List ℕ) (at width n : ℕ) → at + width ≤ length d → width ≡ 0 → d ≡ over d at (decimal width n)
nothing d at width n h e = none 10 48 (omega arith) d at n (omega arith) ∙ ap (λ (w : ℕ). over d at (decimal w n)) (sym e)

moved : (out₀ : List ℕ) (at width n : ℕ) (out : List ℕ) (x k j : ℕ) → k ≡ j → Left out₀ at width n out x k → Left out₀ at width n out x j
moved out₀ at width n out x k j e = subst (λ (i : ℕ). Left out₀ at width n out x i) e

module _ (out₀ : List ℕ) (at width n : ℕ) (out : List ℕ) (x zeros : ℕ) (left : Left out₀ at width n out x (min zeros width)) where
  -- the width has the next place: its digit is the first
  has : 1 < zeros → zeros - 1 < width → Left out₀ at width n out x (suc (zeros - 1))
  has some within =
      let within' : zeros ≤ width = omega arith in
      let e : min zeros width ≡ suc (zeros - 1) = min-eq_left within' ∙ omega arith in
      moved _ _ _ _ _ _ _ _ e left

  -- it has not: so many are left as before
  past : 1 < zeros → width ≤ zeros - 1 → Left out₀ at width n out x (min (zeros - 1) width)
  past some beyond =
      let e : min zeros width ≡ min (zeros - 1) width = min-eq_right (omega arith) ∙ sym (min-eq_right beyond) in
      moved _ _ _ _ _ _ _ _ e left

  -- one digit is left
  last_one : zeros ≡ 1 → 0 < width → Left out₀ at width n out x 1
  last_one e some =
      let m : min zeros width ≡ 1 = rw e (min-eq_left (omega arith)) in
      moved _ _ _ _ _ _ _ _ m left

pub returns-then-width-eq0 : goal.returns-then-width-eq0
returns-then-width-eq0 c = nothing _ _ _ _ c.requires.1 c.if-width-eq0.true

pub loop-zeros-init : goal.loop-zeros-init
loop-zeros-init c =
    let a = c.args in
    let e : a.at + (a.width - a.width) ≡ a.at = omega arith in
    let all : min 7 a.width ≡ a.width = min-eq_right (omega arith) in
    (omega arith, moved _ _ _ _ _ _ _ _ (sym all) (c.held-x.ensures, rw e))

pub split-next-requires : goal.split-next-requires
split-next-requires c =
    let l = c.loop-zeros in
    may_split c.args.n _ _ (omega arith) (has _ _ _ _ _ _ _ l.invariant.1 (omega arith) c.if-zeros-width.true).0

pub overflow_cast-out : goal.overflow_cast-out
overflow_cast-out c =
    let h = has _ _ _ _ _ _ _ c.loop-zeros.invariant.1 (omega arith) c.if-zeros-width.true in
    let digit = (splits c.args.n _ _ _ h.0 c.split-next.ensures).0 in
    omega (arith, digit)

pub loop-zeros-preserved-then-zeros-width : goal.loop-zeros-preserved-then-zeros-width
loop-zeros-preserved-then-zeros-width c =
    let a = c.args in
    let l = c.loop-zeros in
    let place = l.zeros - 1 in
    let h = has _ _ _ _ _ _ _ l.invariant.1 (omega arith) c.if-zeros-width.true in
    let gave = splits a.n _ _ _ h.0 c.split-next.ensures in
    let e : min place a.width ≡ place = min-eq_left (omega arith) in (
      omega arith,
      moved _ _ _ _ _ _ _ _ (sym e) (
        c.uncounted-x.ensures ∙ ap (λ (m : ℕ). 256 * m) gave.1,
        next l.out a.at a.width a.n _ (omega arith) place (omega arith) (ap (λ (m : ℕ). 48 + m) gave.0) ∙ h.1,
      ),
    )

pub loop-zeros-preserved : goal.loop-zeros-preserved
loop-zeros-preserved c = (omega arith, past _ _ _ _ _ _ _ c.loop-zeros.invariant.1 (omega arith) c.if-zeros-width.false)

-- what the digit that is left says
ends : (c : goal.After-loop-zeros) → c.loop-zeros.x / 256 ≡ c.args.n % 10
ends c =
    let h : c.loop-zeros.x ≡ 256 * (c.args.n % 10) = (last_one _ _ _ _ _ _ _ c.loop-zeros.invariant.1 (omega arith) (omega arith)).0 in
    omega arith

pub overflow_cast-out-2 : goal.overflow_cast-out-2
overflow_cast-out-2 c = omega (arith, ends c)

pub returns : goal.returns
returns c =
    let a = c.args in
    let l = c.loop-zeros in
    one 10 48 (omega arith) l.out (a.at + (a.width - 1)) a.n _ (omega arith) (ap (λ (m : ℕ). 48 + m) (ends c))
    ∙ (last_one _ _ _ _ _ _ _ l.invariant.1 (omega arith) (omega arith)).1
