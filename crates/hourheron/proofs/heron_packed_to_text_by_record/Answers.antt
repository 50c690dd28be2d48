-- `hourheron::heron_packed_to_text_by_record` meets its contract: what the route by way of the record made, handed on. Assumes nothing.
use Rattle.transfer.specs.Transfer.{turned, turned_length}
use Rattle.hourheron.proofs.Answers.{lays_made}
use Rattle.hourheron.proofs.heron_packed_to_text_by_record.Goals as goal

pub returns : goal.returns
returns c =
    let a = c.args in
    lays_made (λ l. l) (turned_length a.checksum) (turned a.checksum a.message.now) a.out.now c.by_record.ensures c.answer_of.ensures
