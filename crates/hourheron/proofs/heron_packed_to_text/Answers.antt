-- `hourheron::heron_packed_to_text` meets its contract: what the straight route made, handed on. Assumes nothing.
use Rattle.transfer.specs.Transfer.{turned, turned_length}
use Rattle.hourheron.proofs.Answers.{lays_made}
use Rattle.hourheron.proofs.heron_packed_to_text.Goals as goal

pub returns : goal.returns
returns c =
    let a = c.args in
    lays_made (λ l. l) (turned_length a.checksum) (turned a.checksum a.message.now) a.out.now c.packed_to_text.ensures c.answer_of.ensures
