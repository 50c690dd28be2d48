use mathlib.Core.Bool.{◌&&◌}
use mathlib.Core.Path.{◌≡◌}
use lib.ListN.{drop}
use Rattle.codec.specs.Codec.{printable}
use Rattle.codec.proofs.is_text.Given as goal

abbrev pub invariant-loop-byte : goal.invariant-loop-byte
invariant-loop-byte l = printable l.s ≡ (l.all && printable (drop l.byte-index l.s))
