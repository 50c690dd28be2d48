-- `text_reader::read_front` meets its contract: the first wrong field of four, or all of them. Assumes nothing.
use mathlib.Core.Path.{sym, ◌∙◌}
use Rattle.codec.proofs.Fields.{gave, refused, wrong_first, wrong_later, right_both, parsed_other}
use Rattle.record.specs.Forms.{front_text}
use Rattle.gather.specs.Gather.{four_says}
use Rattle.text_reader.proofs.Parts.{front_width, front_parts}
use Rattle.text_reader.proofs.read_front.Goals as goal

pub returns-then-s-ne19 : goal.returns-then-s-ne19
unfolding four_says
returns-then-s-ne19 c = sym (parsed_other front_text 1 front_width _ c.if-s-ne19.true)

pub returns-in_default : goal.returns-in_default
unfolding four_says
returns-in_default c =
    sym
    (front_parts _ c.if-s-ne19.false
    ∙ wrong_first _ (refused 1 c.read_tagged.ensures c.in_default.is))

pub returns-in_default-read_tagged : goal.returns-in_default-read_tagged
unfolding four_says
returns-in_default-read_tagged c =
    sym
    (front_parts _ c.if-s-ne19.false
    ∙ wrong_later (gave 1 c.read_tagged.ensures c.in-Some.is) (wrong_first _ (refused 2 c.read_tagged-2.ensures c.in_default-read_tagged.is)))

pub returns-in_default-read_stop : goal.returns-in_default-read_stop
unfolding four_says
returns-in_default-read_stop c =
    sym
    (front_parts _ c.if-s-ne19.false
    ∙ wrong_later (gave 1 c.read_tagged.ensures c.in-Some.is) (wrong_later (gave 2 c.read_tagged-2.ensures c.in-Some-read_tagged.is) (wrong_first _ (refused 3 c.read_stop.ensures c.in_default-read_stop.is))))

pub returns-in_default-read_tagged-2 : goal.returns-in_default-read_tagged-2
unfolding four_says
returns-in_default-read_tagged-2 c =
    sym
    (front_parts _ c.if-s-ne19.false
    ∙ wrong_later (gave 1 c.read_tagged.ensures c.in-Some.is) (wrong_later (gave 2 c.read_tagged-2.ensures c.in-Some-read_tagged.is) (wrong_later (gave 3 c.read_stop.ensures c.in-Some-read_stop.is) (refused 4 c.read_tagged-3.ensures c.in_default-read_tagged-2.is))))

pub returns : goal.returns
unfolding four_says
returns c =
    sym
    (front_parts _ c.if-s-ne19.false
    ∙ right_both (gave 1 c.read_tagged.ensures c.in-Some.is) (right_both (gave 2 c.read_tagged-2.ensures c.in-Some-read_tagged.is) (right_both (gave 3 c.read_stop.ensures c.in-Some-read_stop.is) (gave 4 c.read_tagged-3.ensures c.in-Some-read_tagged-2.is))))
