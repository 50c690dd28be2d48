-- `straight::put_ending` meets its contract: the checksum, and LF CR on from where it ended. Assumes nothing.
use Prim.Native.Nat.{ℕ, ◌+◌, ◌≤◌}
use mathlib.Core.Path.{ap, subst}
use lib.ListN.{length}
use Rattle.frame.specs.Frame.{ending_width}
use Rattle.straight.proofs.Xor.{plain_ending, summed_ending}
use Rattle.straight.proofs.put_ending.Goals as goal

pub returns-then-not-checksum : goal.returns-then-not-checksum
returns-then-not-checksum c =
    let a = c.args in
    plain_ending a.out.now 74 a.checksum (c.if-not-checksum.true) c.put_pair.ensures

pub returns : goal.returns
returns c =
    let a = c.args in
    let on = c.if-not-checksum.false in
    summed_ending a.out.now 74 a.checksum c.xor_of-x.result on (subst (λ (k : ℕ). 74 + k ≤ length a.out.now) (ap ending_width on) c.requires) c.xor_of-x.ensures
    c.put_pair-2.ensures c.put_pair-3.ensures
