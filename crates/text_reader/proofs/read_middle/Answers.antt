-- `text_reader::read_middle` meets its contract: the first wrong field of four, or all of them. Assumes nothing.
use mathlib.Core.Path.{sym, ◌∙◌}
use Rattle.codec.proofs.Fields.{gave, refused, wrong_first, wrong_later, right_both, parsed_other}
use Rattle.record.specs.Forms.{middle_text}
use Rattle.gather.specs.Gather.{four_says}
use Rattle.text_reader.proofs.Parts.{middle_width, middle_parts}
use Rattle.text_reader.proofs.read_middle.Goals as goal

pub returns-then-s-ne29 : goal.returns-then-s-ne29
unfolding four_says
returns-then-s-ne29 c = sym (parsed_other middle_text 5 middle_width _ c.if-s-ne29.true)

pub returns-in_default : goal.returns-in_default
unfolding four_says
returns-in_default c =
    sym
    (middle_parts _ c.if-s-ne29.false
    ∙ wrong_first _ (refused 5 c.read_tagged.ensures c.in_default.is))

pub returns-in_default-read_tagged : goal.returns-in_default-read_tagged
unfolding four_says
returns-in_default-read_tagged c =
    sym
    (middle_parts _ c.if-s-ne29.false
    ∙ wrong_later (gave 5 c.read_tagged.ensures c.in-Some.is) (wrong_first _ (refused 6 c.read_tagged-2.ensures c.in_default-read_tagged.is)))

pub returns-in_default-read_tagged-2 : goal.returns-in_default-read_tagged-2
unfolding four_says
returns-in_default-read_tagged-2 c =
    sym
    (middle_parts _ c.if-s-ne29.false
    ∙ wrong_later (gave 5 c.read_tagged.ensures c.in-Some.is) (wrong_later (gave 6 c.read_tagged-2.ensures c.in-Some-read_tagged.is) (wrong_first _ (refused 7 c.read_tagged-3.ensures c.in_default-read_tagged-2.is))))

pub returns-in_default-read_tagged-3 : goal.returns-in_default-read_tagged-3
unfolding four_says
returns-in_default-read_tagged-3 c =
    sym
    (middle_parts _ c.if-s-ne29.false
    ∙ wrong_later (gave 5 c.read_tagged.ensures c.in-Some.is) (wrong_later (gave 6 c.read_tagged-2.ensures c.in-Some-read_tagged.is) (wrong_later (gave 7 c.read_tagged-3.ensures c.in-Some-read_tagged-2.is) (refused 8 c.read_tagged-4.ensures c.in_default-read_tagged-3.is))))

pub returns : goal.returns
unfolding four_says
returns c =
    sym
    (middle_parts _ c.if-s-ne29.false
    ∙ right_both (gave 5 c.read_tagged.ensures c.in-Some.is) (right_both (gave 6 c.read_tagged-2.ensures c.in-Some-read_tagged.is) (right_both (gave 7 c.read_tagged-3.ensures c.in-Some-read_tagged-2.is) (gave 8 c.read_tagged-4.ensures c.in-Some-read_tagged-3.is))))
