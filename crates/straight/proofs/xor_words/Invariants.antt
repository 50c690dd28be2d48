use Rattle.std.proofs.Common.{◌≡◌, ◌*◌, drop}
use Rattle.frame.specs.Frame.{xor_from}
use Rattle.straight.specs.Words.{together}
use Rattle.straight.proofs.xor_words.Given as goal

abbrev pub invariant-loop-i : goal.invariant-loop-i
invariant-loop-i l = xor_from 255 l.s ≡ xor_from (together 8 l.x) (drop (8 * l.i) l.s)
