-- `divided::put_pairs` meets its contract: before each turn the digits of the last pairs are written, and m is what those before them say. Assumes nothing.
use Rattle.std.proofs.Common.{◌≡◌, ℕ, ◌+◌, ◌-◌, ◌*◌, ◌/◌, ◌%◌, List, refl, sym, ap, ◌∙◌, subst, arith}
use Rattle.laws.specs.Over.{over}
use Rattle.digits.specs.Digits.{decimal}
use Rattle.digits.proofs.FromTheEnd.{Written, one, begun, goes_on, ended}
use Rattle.divided.proofs.Pairs.{two}
use Rattle.divided.proofs.put_pairs.Goals as goal

moved : (d : List ℕ) (at width n : ℕ) (out : List ℕ) (left left' m : ℕ) → left ≡ left' → Written 10 48 d at width n out left m → Written 10 48 d at width n out left' m
moved d at width n out left left' m e = subst (λ (k : ℕ). Written 10 48 d at width n out k m) e

pub loop-pair-init : goal.loop-pair-init
loop-pair-init c =
    let a = c.args in
    moved _ _ _ _ _ a.width (a.width % 2 + 2 * (a.width / 2)) _ (omega arith) (begun 10 48 (omega arith) _ _ _ _ c.requires)

pub loop-pair-preserved : goal.loop-pair-preserved
loop-pair-preserved c =
    let l = c.loop-pair in
    let a = c.args in
    let left = a.width % 2 + 2 * l.pair in
    let e : left - 2 ≡ a.width % 2 + 2 * (l.pair - 1) = omega arith in
    let stored = two l.out (a.at + (a.width % 2 + 2 * (l.pair - 1))) l.m (omega arith) ∙ ap (λ (k : ℕ). over l.out (a.at + k) (decimal 2 l.m)) (sym e) in
    moved _ _ _ _ _ (left - 2) _ _ e
    (goes_on 10 48 (omega arith) a.out.now a.at a.width a.n _ _ left l.m 2 (omega arith) l.invariant stored)

pub returns-then-odd-eq1 : goal.returns-then-odd-eq1
returns-then-odd-eq1 c =
    let l = c.loop-pair in
    let a = c.args in
    let left = a.width % 2 + 2 * l.pair in
    let first : a.at ≡ a.at + (left - 1) = omega arith in
    let stored = one 10 48 (omega arith) l.out a.at l.m _ (omega arith) refl ∙ ap (λ (p : ℕ). over l.out p (decimal 1 l.m)) first in
    ended 10 48 (omega arith) a.out.now a.at a.width a.n _ _ _ (omega arith)
    (goes_on 10 48 (omega arith) a.out.now a.at a.width a.n _ _ left l.m 1 (omega arith) l.invariant stored)

pub returns-else-odd-eq1 : goal.returns-else-odd-eq1
returns-else-odd-eq1 c =
    let l = c.loop-pair in
    ended 10 48 (omega arith) _ _ _ _ _ (c.args.width % 2 + 2 * l.pair) l.m (omega arith) l.invariant
