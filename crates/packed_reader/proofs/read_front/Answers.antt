-- `packed_reader::read_front` meets its contract: the first wrong field of four, or all of them. Assumes nothing.
use mathlib.Core.Path.{sym, ap, ◌∙◌}
use Rattle.laws.proofs.Exits.{had, lacked, exits}
use Rattle.codec.proofs.Fields.{gave, refused, wrong_first, wrong_later, right_both, parsed_other}
use Rattle.record.specs.Forms.{front_packed}
use Rattle.gather.specs.Gather.{four_says}
use Rattle.packed_reader.proofs.Parts.{front_width, front_parts}
use Rattle.packed_reader.proofs.read_front.Goals as goal

pub returns-then-s-ne9 : goal.returns-then-s-ne9
unfolding four_says
returns-then-s-ne9 c = sym (parsed_other front_packed 1 front_width _ c.if-s-ne9.true)

pub returns-in_err-focus : goal.returns-in_err-focus
unfolding four_says
returns-in_err-focus c =
    ap four_says (exits _ _ _ c.ok_or.ensures.value c.in_err-focus.was c.from_residual.ensures.1)
    ∙ sym (front_parts _ c.if-s-ne9.false ∙ wrong_first _ (refused 1 c.read_focus.ensures (lacked _ _ c.ok_or.ensures.value c.in_err-focus.was)))

pub returns-in_err-aperture : goal.returns-in_err-aperture
unfolding four_says
returns-in_err-aperture c =
    ap four_says (exits _ _ _ c.ok_or-2.ensures.value c.in_err-aperture.was c.from_residual-in_err-aperture.ensures.1)
    ∙ sym (front_parts _ c.if-s-ne9.false ∙ wrong_later (gave 1 c.read_focus.ensures (had _ _ c.ok_or.ensures.value c.in_ok-focus.was)) (wrong_first _ (refused 2 c.read_groups.ensures (lacked _ _ c.ok_or-2.ensures.value c.in_err-aperture.was))))

pub returns-in_err-stop : goal.returns-in_err-stop
unfolding four_says
returns-in_err-stop c =
    ap four_says (exits _ _ _ c.ok_or-3.ensures.value c.in_err-stop.was c.from_residual-in_err-stop.ensures.1)
    ∙ sym (front_parts _ c.if-s-ne9.false ∙ wrong_later (gave 1 c.read_focus.ensures (had _ _ c.ok_or.ensures.value c.in_ok-focus.was)) (wrong_later (gave 2 c.read_groups.ensures (had _ _ c.ok_or-2.ensures.value c.in_ok-aperture.was)) (wrong_first _ (refused 3 c.read_stop.ensures (lacked _ _ c.ok_or-3.ensures.value c.in_err-stop.was)))))

pub returns-in_err-tenth : goal.returns-in_err-tenth
unfolding four_says
returns-in_err-tenth c =
    ap four_says (exits _ _ _ c.ok_or-4.ensures.value c.in_err-tenth.was c.from_residual-in_err-tenth.ensures.1)
    ∙ sym (front_parts _ c.if-s-ne9.false ∙ wrong_later (gave 1 c.read_focus.ensures (had _ _ c.ok_or.ensures.value c.in_ok-focus.was)) (wrong_later (gave 2 c.read_groups.ensures (had _ _ c.ok_or-2.ensures.value c.in_ok-aperture.was)) (wrong_later (gave 3 c.read_stop.ensures (had _ _ c.ok_or-3.ensures.value c.in_ok-stop.was)) (refused 4 c.read_tenth.ensures (lacked _ _ c.ok_or-4.ensures.value c.in_err-tenth.was)))))

pub returns : goal.returns
unfolding four_says
returns c =
    sym (front_parts _ c.if-s-ne9.false ∙ right_both (gave 1 c.read_focus.ensures (had _ _ c.ok_or.ensures.value c.in_ok-focus.was)) (right_both (gave 2 c.read_groups.ensures (had _ _ c.ok_or-2.ensures.value c.in_ok-aperture.was)) (right_both (gave 3 c.read_stop.ensures (had _ _ c.ok_or-3.ensures.value c.in_ok-stop.was)) (gave 4 c.read_tenth.ensures (had _ _ c.ok_or-4.ensures.value c.in_ok-tenth.was)))))
