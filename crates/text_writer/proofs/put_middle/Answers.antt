-- `text_writer::put_middle` meets its contract: four writes, one behind the other. Assumes nothing.
use mathlib.Core.Path.{refl}
use native.Mathlib.Omega.{arith}
use Rattle.laws.proofs.OverLaws.{last, next, run}
use Rattle.digits.specs.Digits.{digits}
use Rattle.record.specs.Forms.{middle_text}
use Rattle.text_writer.proofs.put_middle.Goals as goal

pub returns : goal.returns
unfolding middle_text digits
returns c =
    run
    (next _ c.put_tagged.ensures refl
    (next _ c.put_tagged-2.ensures refl
    (next _ c.put_tagged-3.ensures refl
    (last _ c.put_tagged-4.ensures refl))))
    (omega (arith, c.told-out))
