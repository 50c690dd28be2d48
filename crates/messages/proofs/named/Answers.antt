-- `messages::named` meets its contract: two bytes, and the text behind them. Assumes nothing.
use Prim.Native.Nat.{◌+◌}
use mathlib.Core.Path.{◌≡◌, refl}
use mathlib.Core.List.{[], ◌∷◌}
use native.Mathlib.Omega.{arith}
use lib.ListN.{length}
use Rattle.laws.proofs.OverLaws.{onto}
use Rattle.state.specs.State.{zeros}
use Rattle.messages.proofs.Laws.{closed_is}
use Rattle.messages.proofs.named.Goals as goal

pub returns : goal.returns
unfolding zeros
returns c =
    let a = c.args in
    let t = a.text.now in
    let body = a.first ∷ a.second ∷ t in
    let l : length body ≡ 2 + length t = omega arith in
    closed_is body (2 + length t) l (omega (arith, c.requires)) a.checksum c.closed.ensures
    (onto zeros (a.first ∷ a.second ∷ []) t 0 2 c.put_pair.ensures c.put_text.ensures refl (omega (arith, c.requires)))
