-- `digits::put_decimal` meets its contract: before each turn the digits behind the first `left` are written, and m is what those first ones say. Assumes nothing.
use Rattle.std.proofs.Common.{◌≡◌, ℕ, ◌+◌, ◌-◌, sym, ap, ◌∙◌, arith, leb-false, leb-true}
use Rattle.laws.specs.Over.{over}
use Rattle.digits.specs.Digits.{decimal}
use Rattle.digits.proofs.FromTheEnd.{no_room, begun, goes_on, ended}
use Rattle.digits.proofs.Laws.{digits_below}
use Rattle.digits.proofs.put_decimal.Goals as goal

pub returns-then-not-has_room : goal.returns-then-not-has_room
returns-then-not-has_room c = no_room 10 48 (omega arith) _ _ _ _ (leb-false _ _ (sym c.before.has_room.ensures ∙ c.if-not-has_room.true))

pub loop-left-init : goal.loop-left-init
loop-left-init c = begun 10 48 (omega arith) _ _ _ _ (leb-true _ _ (sym c.before.has_room.ensures ∙ c.if-not-has_room.false))

pub put_block-requires : goal.put_block-requires
put_block-requires c = (omega arith, omega arith)

pub loop-left-preserved : goal.loop-left-preserved
loop-left-preserved c =
    let b = c.before.before.before in
    let t = b.before.before in
    let l = t.loop-left in
    let a = t.args in
    let parts = t.cut-parts.ensures in
    let low : decimal 7 t.cut-parts.result.low ≡ decimal 7 l.m = ap (decimal 7) parts.1 ∙ digits_below 10 48 (omega arith) 7 l.m in
    let h = goes_on 10 48 (omega arith) a.out.now a.at a.width a.n _ _ l.left l.m 7 (omega arith) l.invariant (b.put_block.ensures ∙ ap (over _ _) low) in
    (h.0, h.1, parts.0 ∙ h.2, h.3, h.4)

pub put_block-requires-2 : goal.put_block-requires-2
put_block-requires-2 c = (omega arith, omega arith)

pub returns : goal.returns
returns c =
    let b = c.before.before.before in
    let l = b.loop-left in
    let a = b.args in
    let first : a.at + (l.left - l.left) ≡ a.at = omega arith in
    let h =
    goes_on 10 48 (omega arith) a.out.now a.at a.width a.n _ _ l.left l.m l.left (omega arith) l.invariant
    (b.put_block-2.ensures ∙ ap (λ (p : ℕ). over l.out p (decimal l.left l.m)) (sym first)) in
    ended 10 48 (omega arith) a.out.now a.at a.width a.n _ _ _ (omega arith) h
