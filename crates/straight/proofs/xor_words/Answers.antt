-- `straight::xor_words` meets its contract: what is left of the slice, from the bytes of x together on, gives what the whole gives from 255. Assumes nothing.
use Rattle.std.proofs.Common.{◌≡◌, ℕ, ◌+◌, ◌-◌, ◌*◌, take, drop, sym, ap, ◌∙◌, arith}
use Rattle.std.specs.Int.Bits.{bit_xor}
use Rattle.laws.specs.Lowest.{from_lowest}
use Rattle.frame.specs.Frame.{xor_from}
use Rattle.straight.specs.Words.{together}
use Rattle.straight.proofs.Xor.{xor_begun, xor_on, xor_end, part_low}
use Rattle.straight.proofs.xor_words.Goals as goal

pub loop-i-init : goal.loop-i-init
loop-i-init c = xor_begun _

pub loop-i-preserved : goal.loop-i-preserved
loop-i-preserved c =
    let l = c.loop-i in
    let s = c.args.s.now in
    let width : 8 * l.i + 8 - 8 * l.i ≡ 8 = omega arith in
    let part = c.word_in-x.ensures ∙ ap (λ (w : ℕ). from_lowest (take w (drop (8 * l.i) s))) width in
    l.invariant
    ∙ xor_on l.x l.i s (omega arith) (λ j. part_low 8 (8 * l.i) s (λ m. omega (arith, c.type_inv.s m)) j)
    ∙ ap (λ (w : ℕ). xor_from (together 8 (bit_xor l.x w)) (drop (8 * (l.i + 1)) s)) (sym part)

pub returns : goal.returns
returns c =
    let l = c.loop-i in
    c.folded.ensures ∙ sym (l.invariant ∙ xor_end _ (8 * l.i) c.args.s.now (omega arith))
