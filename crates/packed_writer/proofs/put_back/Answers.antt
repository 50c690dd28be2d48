-- `packed_writer::put_back` meets its contract: three writes, each on from where the one before ended. Assumes nothing.
use mathlib.Core.Path.{◌≡◌, refl, ap, ◌∙◌}
use native.Mathlib.Omega.{arith}
use mir.Syntax.{w32}
use mir.Val.{to_z, of_z}
use mir.Facts.{to_z-of_z}
use Rattle.laws.specs.Over.{over}
use Rattle.laws.proofs.OverLaws.{last, next, run}
use Rattle.digits.specs.Digits.{digits}
use Rattle.pupil.specs.Pupil.{pupil_packed}
use Rattle.record.specs.Forms.{back_packed}
use borrow.Author.Rules.{rules}
use Rattle.packed_writer.proofs.put_back.Goals as goal

pub returns : goal.returns
unfolding back_packed pupil_packed digits
returns c =
    let same : to_z w32 (of_z w32 c.args.f.pupil) ≡ c.args.f.pupil = to_z-of_z {w = w32} (search rules) in
    run
    (next _ c.put_groups.ensures refl
    (next _ (c.put_pupil_packed.ensures ∙ ap (over _ 25) (ap pupil_packed.print same)) refl
    (last _ c.put_groups-2.ensures refl)))
    (omega (arith, c.told-out))
