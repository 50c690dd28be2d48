-- `messages::degrees_message` meets its contract: P, the degrees behind it, ended. Assumes nothing.
use Prim.Native.Nat.{ℕ, suc}
use mathlib.Core.List.{List, [], ◌∷◌}
use mathlib.Core.Path.{◌≡◌, refl, ap, ◌∙◌}
use native.Mathlib.Omega.{arith}
use mir.Facts.{to_z-of_z}
use lib.ListN.{length}
use Rattle.laws.proofs.OverLaws.{onto}
use Rattle.frame.specs.Frame.{framed}
use Rattle.units.specs.Measurement.{degrees}
use Rattle.units.proofs.Degrees.{degrees_long}
use Rattle.state.specs.State.{zeros, unsent}
use Rattle.messages.proofs.Laws.{closed_is}
use Rattle.messages.proofs.degrees_message.Goals as goal

pub returns : goal.returns
unfolding zeros
returns c =
    let a = c.args in
    let shown = c.degrees_of-shown.result in
    let is : shown ≡ degrees a.t = c.degrees_of-shown.ensures ∙ ap degrees (to_z-of_z c.ranges.t) in
    let long : length shown ≡ 2 = ap length is ∙ degrees_long a.t in
    closed_is (80 ∷ shown) 3 (ap suc long) (omega arith) a.checksum c.closed.ensures
    (onto zeros (80 ∷ []) shown 0 1 c.put_byte.ensures c.put_text.ensures refl (omega (arith, long)))
    ∙ ap (λ (x : List ℕ). unsent (framed a.checksum (80 ∷ x))) is
