-- `packed_reader::read_middle` meets its contract: the first wrong field of four, or all of them. Assumes nothing.
use mathlib.Core.Path.{sym, ap, ◌∙◌}
use Rattle.laws.proofs.Exits.{had, lacked, exits}
use Rattle.codec.proofs.Fields.{gave, refused, wrong_first, wrong_later, right_both, parsed_other}
use Rattle.record.specs.Forms.{middle_packed}
use Rattle.gather.specs.Gather.{four_says}
use Rattle.packed_reader.proofs.Parts.{middle_width, middle_parts}
use Rattle.packed_reader.proofs.read_middle.Goals as goal

pub returns-then-s-ne14 : goal.returns-then-s-ne14
unfolding four_says
returns-then-s-ne14 c = sym (parsed_other middle_packed 5 middle_width _ c.if-s-ne14.true)

pub returns-in_err-focal : goal.returns-in_err-focal
unfolding four_says
returns-in_err-focal c =
    ap four_says (exits _ _ _ c.ok_or.ensures.value c.in_err-focal.was c.from_residual.ensures.1)
    ∙ sym (middle_parts _ c.if-s-ne14.false ∙ wrong_first _ (refused 5 c.read_groups.ensures (lacked _ _ c.ok_or.ensures.value c.in_err-focal.was)))

pub returns-in_err-hyperfocal : goal.returns-in_err-hyperfocal
unfolding four_says
returns-in_err-hyperfocal c =
    ap four_says (exits _ _ _ c.ok_or-2.ensures.value c.in_err-hyperfocal.was c.from_residual-in_err-hyperfocal.ensures.1)
    ∙ sym (middle_parts _ c.if-s-ne14.false ∙ wrong_later (gave 5 c.read_groups.ensures (had _ _ c.ok_or.ensures.value c.in_ok-focal.was)) (wrong_first _ (refused 6 c.read_groups-2.ensures (lacked _ _ c.ok_or-2.ensures.value c.in_err-hyperfocal.was))))

pub returns-in_err-near : goal.returns-in_err-near
unfolding four_says
returns-in_err-near c =
    ap four_says (exits _ _ _ c.ok_or-3.ensures.value c.in_err-near.was c.from_residual-in_err-near.ensures.1)
    ∙ sym (middle_parts _ c.if-s-ne14.false ∙ wrong_later (gave 5 c.read_groups.ensures (had _ _ c.ok_or.ensures.value c.in_ok-focal.was)) (wrong_later (gave 6 c.read_groups-2.ensures (had _ _ c.ok_or-2.ensures.value c.in_ok-hyperfocal.was)) (wrong_first _ (refused 7 c.read_groups-3.ensures (lacked _ _ c.ok_or-3.ensures.value c.in_err-near.was)))))

pub returns-in_err-far : goal.returns-in_err-far
unfolding four_says
returns-in_err-far c =
    ap four_says (exits _ _ _ c.ok_or-4.ensures.value c.in_err-far.was c.from_residual-in_err-far.ensures.1)
    ∙ sym (middle_parts _ c.if-s-ne14.false ∙ wrong_later (gave 5 c.read_groups.ensures (had _ _ c.ok_or.ensures.value c.in_ok-focal.was)) (wrong_later (gave 6 c.read_groups-2.ensures (had _ _ c.ok_or-2.ensures.value c.in_ok-hyperfocal.was)) (wrong_later (gave 7 c.read_groups-3.ensures (had _ _ c.ok_or-3.ensures.value c.in_ok-near.was)) (refused 8 c.read_groups-4.ensures (lacked _ _ c.ok_or-4.ensures.value c.in_err-far.was)))))

pub returns : goal.returns
unfolding four_says
returns c =
    sym (middle_parts _ c.if-s-ne14.false ∙ right_both (gave 5 c.read_groups.ensures (had _ _ c.ok_or.ensures.value c.in_ok-focal.was)) (right_both (gave 6 c.read_groups-2.ensures (had _ _ c.ok_or-2.ensures.value c.in_ok-hyperfocal.was)) (right_both (gave 7 c.read_groups-3.ensures (had _ _ c.ok_or-3.ensures.value c.in_ok-near.was)) (gave 8 c.read_groups-4.ensures (had _ _ c.ok_or-4.ensures.value c.in_ok-far.was)))))
