-- `nwriter::put_lens` meets its contract: each call writes on from where the one before ended. Assumes nothing.
use mathlib.Core.Path.{refl}
use native.Mathlib.Omega.{arith}
use Rattle.laws.proofs.OverLaws.{last, next, run}
use Rattle.digits.specs.Digits.{digits}
use Rattle.fixed.specs.Form.{lens_items}
use Rattle.nwriter.specs.Parts.{lens_text}
use Rattle.nwriter.proofs.put_lens.Goals as goal

pub returns : goal.returns
unfolding lens_text lens_items digits
returns c =
    run
    (next _ c.put_pair.ensures refl
    (next _ c.put_tagged.ensures refl
    (next _ c.put_tagged-2.ensures refl
    (next _ c.put_pair-2.ensures refl
    (last _ c.put_tagged-3.ensures refl)))))
    (omega (arith, c.told-out))
