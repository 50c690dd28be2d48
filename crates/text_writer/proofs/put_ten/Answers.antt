-- `text_writer::put_ten` meets its contract: the groups and two fields, one behind the other, over the first bytes. Assumes nothing.
use Prim.Native.Nat.{◌<◌}
use mathlib.Core.Path.{◌≡◌, refl, sym, ap, ◌∙◌}
use native.Mathlib.Omega.{arith}
use mir.Syntax.{w32}
use mir.Val.{to_z, of_z}
use mir.Facts.{to_z-of_z}
use lib.ListN.{length}
use Rattle.laws.specs.Over.{over}
use Rattle.laws.proofs.OverLaws.{over_short, last, next, run_first}
use Rattle.digits.specs.Digits.{digits}
use Rattle.pointed.specs.Pointed.{pointed}
use Rattle.pupil.specs.Pupil.{pupil_text}
use Rattle.record.specs.Forms.{ten_length}
use Rattle.record.proofs.Exact.{front_text_long}
use Rattle.text_writer.proofs.Written.{middle_long, ten_long}
use borrow.Author.Rules.{rules}
use Rattle.text_writer.proofs.put_ten.Goals as goal

pub returns-in_default : goal.returns-in_default
returns-in_default c =
    let short : length c.args.out.now < ten_length = search rules in
    sym (over_short _ _ 0 (omega (arith, ten_long c.args.f, short)))

pub returns : goal.returns
unfolding pointed pupil_text digits
returns c =
    let same : to_z w32 (of_z w32 c.args.f.pupil) ≡ c.args.f.pupil = to_z-of_z {w = w32} (search rules) in
    let first = c.in-Some.ensures.cases in
    run_first _ ten_length first.enough first.same
    (next _ c.put_front.ensures (front_text_long _)
    (next _ c.put_middle.ensures (middle_long _)
    (next _ c.put_byte.ensures refl
    (next _ c.put_pointed.ensures refl
    (last _ (c.put_pupil_text.ensures ∙ ap (over _ 54) (ap pupil_text.print same)) refl)))))
    (omega arith)
