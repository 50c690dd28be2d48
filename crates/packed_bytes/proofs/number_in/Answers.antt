-- `packed_bytes::number_in` meets its contract: none of more than five, four groups at once, or one by one; before each turn n is what the groups passed say, so that reading on from it reads the whole. Assumes nothing.
use Rattle.std.proofs.Common.{◌%◌, ◌<◌, get_or, refl, sym, ap, ◌∙◌, pow-suc, add-one, arith}
use lib.Arith.{digits_lt}
use borrow.Author.Tests.{lt-leb, le-leb}
use Rattle.laws.proofs.Tests.{yes, no}
use Rattle.packed_bytes.specs.Bytes.{sixes, packed_number}
use Rattle.packed_bytes.proofs.Laws.{onward_more, onward_end}
use Rattle.packed_bytes.proofs.number_in.Goals as goal

pub returns-then-s-gt5 : goal.returns-then-s-gt5
unfolding packed_number
returns-then-s-gt5 c = no _ (lt-leb _ _ c.if-s-gt5.true) refl

pub returns-in-Some : goal.returns-in-Some
unfolding packed_number
returns-in-Some c = yes _ (le-leb _ _ c.if-s-gt5.false) (c.distance_in.ensures ∙ ap sixes c.in-Some.ensures.cases.same)

pub loop-byte-preserved : goal.loop-byte-preserved
loop-byte-preserved c =
    let l = c.loop-byte in
    let s = c.args.s.now in
    let d : get_or s l.byte-index 0 % 64 < 64 = omega arith in
    rw (c.from.ensures, add-one) (rw pow-suc (digits_lt l.invariant.0 d), l.invariant.1 ∙ onward_more l.n l.byte-index s c.loop-byte-test.true)

pub returns : goal.returns
unfolding packed_number
returns c =
    let l = c.loop-byte in
    yes _ (le-leb _ _ c.if-s-gt5.false) (sym (l.invariant.1 ∙ onward_end _ l.byte-index _ c.loop-byte-test.false))
