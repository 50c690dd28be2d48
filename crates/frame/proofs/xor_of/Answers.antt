-- `frame::xor_of` meets its contract: what is left of the slice, from `x` on, gives what the whole gives from 255. Assumes nothing.
use Rattle.std.proofs.Common.{sym, ◌∙◌, add-one}
use lib.ListN.{drop_of_length-le}
use lib.Seq.{drop-cons}
use Rattle.frame.specs.Frame.{xor_from}
use Rattle.frame.proofs.xor_of.Goals as goal

pub loop-byte-preserved : goal.loop-byte-preserved
unfolding xor_from
loop-byte-preserved c =
    let l = c.loop-byte in
    l.invariant ∙ rw (drop-cons c.args.s.now l.byte-index 0 c.loop-byte-test.true, add-one)

pub returns : goal.returns
unfolding xor_from
returns c = sym (c.loop-byte.invariant ∙ rw (drop_of_length-le c.args.s.now c.loop-byte-test.false))
