-- `hourheron::heron_write_packed` meets its contract: the record that is written stands for the one handed in. Assumes nothing.
use mir.Facts.{to_z-of_z}
use Rattle.refusal.specs.declared.Refusal.TheVariants.{Field}
use Rattle.record.specs.Forms.{packed_form}
use Rattle.record.proofs.Exact.{packed_lowest}
use Rattle.serial.proofs.Given.{stands_record}
use Rattle.hourheron.proofs.Answers.{writes_given}
use Rattle.hourheron.proofs.heron_write_packed.Goals as goal

pub returns : goal.returns
returns c =
    let a = c.args in
    let stands = stands_record packed_form packed_lowest _ a.serial.now c.record_from-record.ensures in
    rw (to_z-of_z c.ranges.pupil) at (writes_given packed_form Field a.checksum a.out.now stands c.write_packed.ensures c.answer_of.ensures)
