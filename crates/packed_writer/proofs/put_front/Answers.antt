-- `packed_writer::put_front` meets its contract: four writes, each on from where the one before ended. Assumes nothing.
use mathlib.Core.Path.{refl}
use native.Mathlib.Omega.{arith}
use Rattle.laws.proofs.OverLaws.{last, next, run}
use Rattle.digits.specs.Digits.{digits}
use Rattle.stop.specs.Stop.{pair}
use Rattle.record.specs.Forms.{front_packed}
use Rattle.packed_writer.proofs.put_front.Goals as goal

pub returns : goal.returns
unfolding front_packed pair digits
returns c =
    run
    (next _ c.put_byte.ensures refl
    (next _ c.put_groups.ensures refl
    (next _ c.put_groups-2.ensures refl
    (last _ c.put_stop_pair.ensures refl))))
    (omega (arith, c.told-out))
