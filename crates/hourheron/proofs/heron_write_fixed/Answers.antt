-- `hourheron::heron_write_fixed` meets its contract: the fixed data that are written stand for those handed in. Assumes nothing.
use Rattle.refusal.specs.declared.Refusal.TheVariants.{Setting}
use Rattle.fixed.specs.Form.{fixed_form}
use Rattle.fixed.specs.declared.Lens.{Lens}
use Rattle.hourheron.proofs.Given.{stands_fixed}
use Rattle.hourheron.proofs.Answers.{writes_given}
use Rattle.hourheron.proofs.heron_write_fixed.Goals as goal

pub returns : goal.returns
returns c =
    let a = c.args in
    let lens : Lens = record { kind = a.kind; focal = a.focal; maximum = a.maximum; letter = a.letter; transmission = a.transmission } in
    writes_given fixed_form Setting a.checksum a.out.now (stands_fixed a.serial.now a.owner.now lens a.version.now c.fixed_from-fixed.ensures)
    c.write_fixed.ensures c.answer_of.ensures
