-- `straight::put_front` meets its contract: five writes, one behind the other. Assumes nothing.
use Prim.Native.Nat.{ℕ, ◌%◌}
use mathlib.Core.List.{[], ◌∷◌}
use mathlib.Core.Path.{refl, sym, ap, ap₂, ◌∙◌}
use native.Mathlib.Omega.{arith}
use Rattle.std.proofs.lemmas.List.{get_or-take}
use Rattle.laws.specs.Over.{over}
use Rattle.laws.proofs.OverLaws.{last, next, run}
use Rattle.digits.specs.Digits.{digits}
use Rattle.stop.specs.Stop.{stop, stop_in, stop_text}
use Rattle.stop.proofs.Exact.{stop_long}
use Rattle.record.specs.Forms.{front_text}
use Rattle.straight.proofs.Written.{tagged_as, number_at}
use Rattle.straight.proofs.put_front.Goals as goal

pub returns : goal.returns
unfolding front_text stop digits
returns c =
    let s = c.args.s.now in
    let seven = sym (get_or-take 9 s 7 0 (omega arith)) in
    let eight = sym (get_or-take 9 s 8 0 (omega arith)) in
    run
    (next _ (tagged_as _ 0 68 7 (c.number_in.ensures ∙ number_at 0 9 1 4 s (omega arith) (omega arith)) c.put_tagged.ensures) refl
    (next _ (tagged_as _ 8 84 4 (c.number_in-2.ensures ∙ number_at 0 9 5 2 s (omega arith) (omega arith)) c.put_tagged-2.ensures) refl
    (next (116 ∷ []) c.put_byte.ensures refl
    (next _ (c.put_stop.ensures ∙ ap (over _ 14) (ap stop_text (c.stop_in.ensures ∙ ap₂ stop_in seven eight))) (stop_long _)
    (last _ (tagged_as _ 17 43 1 (ap (λ (n : ℕ). n % 64) eight) c.put_tagged-3.ensures) refl)))))
    (omega (arith, c.told-out))
