-- `messages::blur_message` meets its contract: the letter and 0.0, the digits of the blur circle behind them, ended. Assumes nothing.
use mathlib.Core.Path.{refl}
use mathlib.Core.List.{[], ◌∷◌}
use native.Mathlib.Omega.{arith}
use Rattle.laws.proofs.OverLaws.{onto}
use Rattle.digits.specs.Digits.{digits, decimal}
use Rattle.state.specs.State.{zeros}
use Rattle.messages.proofs.Laws.{closed_is}
use Rattle.messages.proofs.blur_message.Goals as goal

pub returns : goal.returns
unfolding zeros digits
returns c =
    let a = c.args in
    closed_is (a.letter ∷ 48 ∷ 46 ∷ 48 ∷ decimal 3 a.circle) 7 refl (omega arith) a.checksum c.closed.ensures
    (onto zeros (a.letter ∷ 48 ∷ 46 ∷ 48 ∷ []) (decimal 3 a.circle) 0 4 c.put_text.ensures c.put_decimal.ensures refl (omega arith))
