-- `packed_reader::read_contents` meets its contract: its length, the three groups, then the serial. Assumes nothing.
use mathlib.Core.Path.{sym, ap, ◌∙◌}
use Rattle.codec.proofs.Fields.{parsed_whole, parsed_other}
use Rattle.frame.specs.Message.{found}
use Rattle.record.specs.Forms.{front_packed, middle_packed, back_packed, packed_form}
use Rattle.record.proofs.Exact.{packed_form_width}
use Rattle.gather.proofs.Laws.{record_found}
use Rattle.packed_reader.proofs.Parts.{front_width, middle_width, back_width}
use Rattle.packed_reader.proofs.read_contents.Goals as goal

pub returns-then-s-ne-PACKED_LENGTH : goal.returns-then-s-ne-PACKED_LENGTH
unfolding found
returns-then-s-ne-PACKED_LENGTH c = ap found (sym (parsed_other packed_form 1 packed_form_width _ c.if-s-ne-PACKED_LENGTH.true))

pub returns : goal.returns
unfolding packed_form
returns c =
    let s = c.args.s.now in
    c.with_serial.ensures
    ∙ ap found
    (record_found front_packed middle_packed back_packed 9 14 6 front_width middle_width back_width s c.if-s-ne-PACKED_LENGTH.false _ c.read_front.ensures c.read_middle.ensures c.read_back.ensures c.gather-eleven.ensures
    ∙ sym (parsed_whole packed_form 1 packed_form_width s c.if-s-ne-PACKED_LENGTH.false))
