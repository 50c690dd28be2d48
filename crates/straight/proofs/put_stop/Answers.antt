-- `straight::put_stop` meets its contract: below 100 a digit, a point and a digit; else two digits and a point. Assumes nothing.
use mathlib.Core.List.{[], ◌∷◌}
use mathlib.Core.Path.{refl, sym, ap, ◌∙◌}
use native.Mathlib.Omega.{arith}
use Rattle.laws.specs.Over.{over}
use Rattle.laws.proofs.OverLaws.{last, next, run}
use Rattle.digits.specs.Digits.{digits}
use Rattle.stop.proofs.Exact.{low_text, high_text}
use Rattle.straight.proofs.put_stop.Goals as goal

pub returns-then-stop-lt100 : goal.returns-then-stop-lt100
unfolding digits
returns-then-stop-lt100 c =
    run (next _ c.put_decimal.ensures refl (last _ c.put_tagged.ensures refl)) (omega (arith, c.told-out))
    ∙ ap (over _ 14) (sym (low_text _ c.if-stop-lt100.true))

pub returns : goal.returns
unfolding digits
returns c =
    run (next _ c.put_decimal-2.ensures refl (last (46 ∷ []) c.put_byte.ensures refl)) (omega (arith, c.told-out))
    ∙ ap (over _ 14) (sym (high_text _ c.if-stop-lt100.false))
