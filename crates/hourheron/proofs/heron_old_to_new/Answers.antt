-- `hourheron::heron_old_to_new` meets its contract: what the archive made, handed on. Assumes nothing.
use Rattle.archive.specs.Archive.{new_line_length, forward}
use Rattle.hourheron.proofs.Answers.{lays_made}
use Rattle.hourheron.proofs.heron_old_to_new.Goals as goal

pub returns : goal.returns
returns c =
    let a = c.args in
    lays_made (λ l. l) new_line_length (forward a.message.now a.serial.now) a.out.now c.old_to_new.ensures c.answer_of.ensures
