-- `packed_writer::put_middle` meets its contract: four writes, each on from where the one before ended. Assumes nothing.
use mathlib.Core.Path.{refl}
use native.Mathlib.Omega.{arith}
use Rattle.laws.proofs.OverLaws.{last, next, run}
use Rattle.digits.specs.Digits.{digits}
use Rattle.record.specs.Forms.{middle_packed}
use Rattle.packed_writer.proofs.put_middle.Goals as goal

pub returns : goal.returns
unfolding middle_packed digits
returns c =
    run
    (next _ c.put_groups.ensures refl
    (next _ c.put_groups-2.ensures refl
    (next _ c.put_groups-3.ensures refl
    (last _ c.put_groups-4.ensures refl))))
    (omega (arith, c.told-out))
