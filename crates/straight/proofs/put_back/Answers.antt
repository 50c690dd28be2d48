-- `straight::put_back` meets its contract: five writes, one behind the other. Assumes nothing.
use Prim.Native.Nat.{ℕ, ◌/◌, ◌%◌}
use mathlib.Core.List.{[], ◌∷◌}
use mathlib.Core.Path.{refl, ap, ◌∙◌}
use native.Mathlib.Omega.{arith}
use Rattle.laws.proofs.OverLaws.{last, next, run}
use Rattle.digits.specs.Digits.{digits}
use Rattle.pointed.specs.Pointed.{pointed}
use Rattle.pupil.specs.Pupil.{pupil_text}
use Rattle.record.specs.Forms.{back_text}
use Rattle.straight.proofs.Written.{tagged_as, number_at, pupil_as}
use Rattle.straight.proofs.put_back.Goals as goal

pub returns : goal.returns
unfolding back_text pointed pupil_text digits
returns c =
    let s = c.args.s.now in
    let view = c.number_in-view.ensures ∙ number_at 23 6 0 2 s (omega arith) (omega arith) in
    run
    (next _ (tagged_as _ 48 86 3 (ap (λ (n : ℕ). n / 10) view) c.put_tagged.ensures) refl
    (next _ (tagged_as _ 52 46 1 (ap (λ (n : ℕ). n % 10) view) c.put_tagged-2.ensures) refl
    (next (69 ∷ []) c.put_byte.ensures refl
    (next _ (pupil_as _ c.sign_in.ensures (c.number_in-code.ensures ∙ number_at 23 6 2 2 s (omega arith) (omega arith)) c.put_tagged-3.ensures) refl
    (last _ (tagged_as _ 59 122 4 (c.number_in.ensures ∙ number_at 23 6 4 2 s (omega arith) (omega arith)) c.put_tagged-4.ensures) refl)))))
    (omega (arith, c.told-out))
