use mathlib.Core.Path.{◌≡◌}
use lib.ListN.{drop}
use Rattle.frame.specs.Frame.{xor_from}
use Rattle.frame.proofs.xor_of.Given as goal

abbrev pub invariant-loop-byte : goal.invariant-loop-byte
invariant-loop-byte l = xor_from 255 l.s ≡ xor_from l.x (drop l.byte-index l.s)
