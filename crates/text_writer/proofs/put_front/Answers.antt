-- `text_writer::put_front` meets its contract: five writes, one behind the other. Assumes nothing.
use mathlib.Core.Path.{refl}
use native.Mathlib.Omega.{arith}
use Rattle.laws.proofs.OverLaws.{last, next, run}
use Rattle.digits.specs.Digits.{digits}
use Rattle.stop.specs.Stop.{stop}
use Rattle.stop.proofs.Exact.{stop_long}
use Rattle.record.specs.Forms.{front_text}
use Rattle.text_writer.proofs.put_front.Goals as goal

pub returns : goal.returns
unfolding front_text stop digits
returns c =
    run
    (next _ c.put_tagged.ensures refl
    (next _ c.put_tagged-2.ensures refl
    (next _ c.put_byte.ensures refl
    (next _ c.put_stop_text.ensures (stop_long _)
    (last _ c.put_tagged-3.ensures refl)))))
    (omega (arith, c.told-out))
