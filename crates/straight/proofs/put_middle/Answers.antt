-- `straight::put_middle` meets its contract: four writes, one behind the other. Assumes nothing.
use mathlib.Core.Path.{refl, ◌∙◌}
use native.Mathlib.Omega.{arith}
use Rattle.laws.proofs.OverLaws.{last, next, run}
use Rattle.digits.specs.Digits.{digits}
use Rattle.record.specs.Forms.{middle_text}
use Rattle.straight.proofs.Written.{tagged_as, number_at}
use Rattle.straight.proofs.put_middle.Goals as goal

pub returns : goal.returns
unfolding middle_text digits
returns c =
    let s = c.args.s.now in
    run
    (next _ (tagged_as _ 19 90 4 (c.number_in.ensures ∙ number_at 9 14 0 2 s (omega arith) (omega arith)) c.put_tagged.ensures) refl
    (next _ (tagged_as _ 24 72 7 (c.number_in-2.ensures ∙ number_at 9 14 2 4 s (omega arith) (omega arith)) c.put_tagged-2.ensures) refl
    (next _ (tagged_as _ 32 78 7 (c.number_in-3.ensures ∙ number_at 9 14 6 4 s (omega arith) (omega arith)) c.put_tagged-3.ensures) refl
    (last _ (tagged_as _ 40 70 7 (c.number_in-4.ensures ∙ number_at 9 14 10 4 s (omega arith) (omega arith)) c.put_tagged-4.ensures) refl))))
    (omega (arith, c.told-out))
