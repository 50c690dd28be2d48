-- `straight::put_record` meets its contract: the groups and the serial, one behind the other. Assumes nothing.
use mathlib.Core.List.{[], ◌∷◌}
use mathlib.Core.Path.{◌≡◌, refl, ap, ◌∙◌}
use native.Mathlib.Omega.{arith}
use lib.ListN.{length, drop, length-drop}
use lib.Seq.{length-take-le}
use Rattle.laws.specs.Over.{over}
use Rattle.laws.proofs.OverLaws.{last, next, run}
use Rattle.record.proofs.Exact.{front_text_long}
use Rattle.text_writer.proofs.Written.{middle_long}
use Rattle.packed_bytes.specs.Bytes.{packed_record}
use Rattle.straight.proofs.Written.{back_long, contents_are}
use borrow.Author.Rules.{rules}
use Rattle.straight.proofs.put_record.Goals as goal

pub returns : goal.returns
returns c =
    let bytes : length c.args.s.now ≡ 39 = search rules in
    run
    (next _ c.put_front.ensures (front_text_long _)
    (next _ c.put_middle.ensures (middle_long _)
    (next _ c.put_back.ensures (back_long _)
    (next (83 ∷ []) c.put_byte.ensures refl
    (last _ c.put_text.ensures (length-take-le 9 (drop 30 c.args.s.now) (simp length-drop (omega (arith, bytes)))))))))
    (omega (arith, c.told-out))
    ∙ ap (over _ 0) (contents_are (packed_record c.args.s.now))
