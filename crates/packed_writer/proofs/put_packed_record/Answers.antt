-- `packed_writer::put_packed_record` meets its contract: the groups, one behind the other, over the first bytes. Assumes nothing.
use Prim.Native.Nat.{◌<◌}
use mathlib.Core.Path.{◌≡◌, sym, ap, ◌∙◌}
use native.Mathlib.Omega.{arith}
use lib.ListN.{length}
use Rattle.laws.specs.Over.{over}
use Rattle.laws.proofs.OverLaws.{over_short, last, next, run_first}
use Rattle.serial.proofs.Field.{serial_long}
use Rattle.record.specs.Forms.{packed_length}
use Rattle.packed_writer.proofs.Written.{front_long, middle_long, back_long, groups_of, record_long}
use borrow.Author.Rules.{rules}
use Rattle.packed_writer.proofs.put_packed_record.Goals as goal

pub returns-in_default : goal.returns-in_default
returns-in_default c =
    let nine : length c.args.r.serial ≡ 9 = search rules in
    let short : length c.args.out.now < packed_length = search rules in
    sym (over_short _ _ 0 (omega (arith, record_long c.args.r nine, short)))

pub returns : goal.returns
returns c =
    let nine : length c.args.r.serial ≡ 9 = search rules in
    let first = c.in-Some.ensures.cases in
    run_first _ packed_length first.enough first.same
    (next _ c.put_front.ensures (front_long _)
    (next _ c.put_middle.ensures (middle_long _)
    (next _ c.put_back.ensures (back_long _)
    (last _ c.put_serial.ensures (serial_long _ nine)))))
    (omega arith)
    ∙ ap (over _ 0) (groups_of c.args.r)
