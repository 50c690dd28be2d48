-- `hourheron::heron_new_to_old` meets its contract: what the archive made, handed on. Assumes nothing.
use Rattle.archive.specs.Archive.{old_line_length, back}
use Rattle.hourheron.proofs.Answers.{lays_made}
use Rattle.hourheron.proofs.heron_new_to_old.Goals as goal

pub returns : goal.returns
returns c =
    let a = c.args in
    lays_made (λ l. l) old_line_length (back a.message.now) a.out.now c.new_to_old.ensures c.answer_of.ensures
