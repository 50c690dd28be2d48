-- `messages::letter_message` meets its contract: one byte in a fresh buffer, ended. Assumes nothing.
use mathlib.Core.Path.{refl}
use mathlib.Core.List.{[], ◌∷◌}
use native.Mathlib.Omega.{arith}
use Rattle.state.specs.State.{zeros}
use Rattle.messages.proofs.Laws.{closed_is}
use Rattle.messages.proofs.letter_message.Goals as goal

pub returns : goal.returns
unfolding zeros
returns c =
    let a = c.args in
    closed_is (a.byte ∷ []) 1 refl (omega arith) a.checksum c.closed.ensures c.put_byte.ensures
