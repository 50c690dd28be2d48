-- `straight::xor_of` meets its contract: nine words, and two bytes. Assumes nothing.
use Prim.Native.Nat.{ℕ}
use mathlib.Core.Path.{sym, ap, ◌∙◌}
use lib.Bits.{bit_xor}
use lib.ListN.{get_or}
use Rattle.straight.proofs.Xor.{two_left}
use Rattle.straight.proofs.xor_of.Goals as goal

pub returns : goal.returns
returns c =
    let s = c.args.s.now in
    ap (λ (x : ℕ). bit_xor (bit_xor x (get_or s 72 0)) (get_or s 73 0)) c.xor_words.ensures ∙ sym (two_left s c.requires)
