-- `packed_bytes::distance_in` meets its contract: the laws of the two masks. Assumes nothing.
use Prim.Native.Nat.{◌/◌}
use native.Mathlib.Omega.{arith}
use mathlib.Core.Path.{◌≡◌}
use lib.Bits.{and_le_r}
use lib.ListN.{length}
use borrow.Author.Rules.{rules}
use Rattle.packed_bytes.proofs.Lanes.{pairs_say}
use Rattle.packed_bytes.proofs.distance_in.Goals as goal

pub overflow_mul-pairs : goal.overflow_mul-pairs
overflow_mul-pairs c = omega (arith, and_le_r c.four_in-x.result 4128831, and_le_r (c.four_in-x.result / 256) 4128831)

pub overflow_add-pairs : goal.overflow_add-pairs
overflow_add-pairs c = omega (arith, and_le_r c.four_in-x.result 4128831, and_le_r (c.four_in-x.result / 256) 4128831)

pub overflow_add-result : goal.overflow_add-result
overflow_add-result c = omega (arith, and_le_r c.four_in-x.result 4128831, and_le_r (c.four_in-x.result / 256) 4128831)

pub overflow_cast-result : goal.overflow_cast-result
overflow_cast-result c = omega (arith, and_le_r c.four_in-x.result 4128831, and_le_r (c.four_in-x.result / 256) 4128831)

pub returns : goal.returns
returns c =
    let four : length c.args.s.now ≡ 4 = search rules in
    pairs_say c.args.s.now four (λ i. search rules) c.four_in-x.result c.four_in-x.ensures.0
