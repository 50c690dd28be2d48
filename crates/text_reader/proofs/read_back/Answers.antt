-- `text_reader::read_back` meets its contract: V and E with the zoom behind them. Assumes nothing.
use mathlib.Core.Path.{refl, sym, ap, ◌∙◌}
use Rattle.codec.specs.Codec.{field_says}
use Rattle.codec.proofs.Fields.{tagged_number, parsed_other}
use Rattle.record.specs.Forms.{back_text, zoom_text}
use Rattle.gather.specs.Gather.{three_says}
use Rattle.text_reader.proofs.Parts.{back_text_width, back_parts}
use Rattle.text_reader.proofs.read_back.Goals as goal

pub returns-then-s-ne16 : goal.returns-then-s-ne16
unfolding three_says
returns-then-s-ne16 c = sym (parsed_other back_text 9 back_text_width _ c.if-s-ne16.true)

pub returns : goal.returns
unfolding back_text
returns c =
    c.with_zoom.ensures
    ∙ back_parts _ zoom_text _ refl c.if-s-ne16.false (ap (field_says 11) c.read_tagged.ensures ∙ tagged_number 122 11 10 48 4 1000 _)
