-- `pupil::pupil_code` meets its contract: below zero the size has the sign's bit on top. Assumes nothing.
use Prim.Native.Nat.{ℕ, ◌+◌, ◌≤◌, ◌^◌}
use mathlib.Core.Path.{sym, ap, ◌∙◌}
use native.Mathlib.Omega.{arith}
use lib.IntN.{ℤ, pos, negsuc}
use mir.Syntax.{w32}
use mir.Val.{SFits}
use mir.Facts.{to_z-of_z}
use Rattle.sign.specs.Sign.{size, below0}
use Rattle.laws.proofs.Tests.{yes, no}
use Rattle.pupil.proofs.pupil_code.Goals as goal

-- a number of 32 bits is at most 2 ^ 31 from zero
small : (z : ℤ) → SFits w32 z → size z ≤ 2 ^ 31
small (pos n) f = omega (arith, f.sfits)
small (negsuc n) f = omega (arith, f.sfits)

pub overflow_add-result : goal.overflow_add-result
overflow_add-result c =
    let e = c.size_of.ensures ∙ ap size (to_z-of_z c.ranges.e) in
    omega (arith, e, small c.args.e c.ranges.e)

pub returns-then-is_below : goal.returns-then-is_below
returns-then-is_below c =
    let same = to_z-of_z c.ranges.e in
    yes _ (sym (c.is_below.ensures ∙ ap below0 same) ∙ c.if-is_below.true) (ap (λ (n : ℕ). 2048 + n) (c.size_of.ensures ∙ ap size same))

pub returns : goal.returns
returns c =
    let same = to_z-of_z c.ranges.e in
    no _ (sym (c.is_below.ensures ∙ ap below0 same) ∙ c.if-is_below.false) (c.size_of-2.ensures ∙ ap size same)
