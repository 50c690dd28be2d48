-- `text_reader::read_contents` meets its contract: its length, the three groups, then the serial. Assumes nothing.
use mathlib.Core.Path.{sym, ap, ◌∙◌}
use Rattle.codec.proofs.Fields.{parsed_whole, parsed_other}
use Rattle.frame.specs.Message.{found}
use Rattle.record.specs.Forms.{front_text, middle_text, back_text, text_form}
use Rattle.record.proofs.Exact.{text_form_width}
use Rattle.gather.proofs.Laws.{record_found}
use Rattle.text_reader.proofs.Parts.{front_width, middle_width, back_text_width}
use Rattle.text_reader.proofs.read_contents.Goals as goal

pub returns-then-s-ne-TEXT_LENGTH : goal.returns-then-s-ne-TEXT_LENGTH
unfolding found
returns-then-s-ne-TEXT_LENGTH c = ap found (sym (parsed_other text_form 1 text_form_width _ c.if-s-ne-TEXT_LENGTH.true))

pub returns : goal.returns
unfolding text_form
returns c =
    let s = c.args.s.now in
    c.with_serial.ensures
    ∙ ap found
    (record_found front_text middle_text back_text 19 29 16 front_width middle_width back_text_width s c.if-s-ne-TEXT_LENGTH.false _ c.read_front.ensures c.read_middle.ensures c.read_back.ensures c.gather-eleven.ensures
    ∙ sym (parsed_whole text_form 1 text_form_width s c.if-s-ne-TEXT_LENGTH.false))
