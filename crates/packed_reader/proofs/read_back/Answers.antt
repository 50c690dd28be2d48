-- `packed_reader::read_back` meets its contract: the first wrong field, or all three. Assumes nothing.
use mathlib.Core.Path.{◌≡◌, sym, ap, ◌∙◌}
use mir.Facts.{to_z-of_z}
use mir.Syntax.{w32}
use mir.Val.{to_z, of_z}
use borrow.Author.Rules.{rules}
use Rattle.laws.proofs.Exits.{had, lacked, exits}
use Rattle.codec.proofs.Fields.{gave, refused, wrong_first, wrong_later, right_both, parsed_other}
use Rattle.pupil.specs.Pupil.{pupil_says}
use Rattle.record.specs.Forms.{back_packed}
use Rattle.gather.specs.Gather.{three_says}
use Rattle.packed_reader.proofs.Parts.{back_width, back_parts}
use Rattle.packed_reader.proofs.read_back.Goals as goal

pub returns-then-s-ne6 : goal.returns-then-s-ne6
unfolding three_says
returns-then-s-ne6 c = sym (parsed_other back_packed 9 back_width _ c.if-s-ne6.true)

pub returns-in_err-view : goal.returns-in_err-view
unfolding three_says
returns-in_err-view c =
    ap three_says (exits _ _ _ c.ok_or.ensures.value c.in_err-view.was c.from_residual.ensures.1)
    ∙ sym (back_parts _ c.if-s-ne6.false ∙ wrong_first _ (refused 9 c.read_groups.ensures (lacked _ _ c.ok_or.ensures.value c.in_err-view.was)))

pub returns-in_err-pupil : goal.returns-in_err-pupil
unfolding three_says pupil_says
returns-in_err-pupil c =
    ap three_says (exits _ _ _ c.ok_or-2.ensures.value c.in_err-pupil.was c.from_residual-in_err-pupil.ensures.1)
    ∙ sym (back_parts _ c.if-s-ne6.false ∙ wrong_later (gave 9 c.read_groups.ensures (had _ _ c.ok_or.ensures.value c.in_ok-view.was)) (wrong_first _ (ap pupil_says (sym c.read_pupil_packed.ensures ∙ lacked _ _ c.ok_or-2.ensures.value c.in_err-pupil.was))))

pub returns-in_err-zoom : goal.returns-in_err-zoom
unfolding three_says pupil_says
returns-in_err-zoom c =
    ap three_says (exits _ _ _ c.ok_or-3.ensures.value c.in_err-zoom.was c.from_residual-in_err-zoom.ensures.1)
    ∙ sym (back_parts _ c.if-s-ne6.false ∙ wrong_later (gave 9 c.read_groups.ensures (had _ _ c.ok_or.ensures.value c.in_ok-view.was)) (wrong_later (ap pupil_says (sym c.read_pupil_packed.ensures ∙ had _ _ c.ok_or-2.ensures.value c.in_ok-pupil.was)) (refused 11 c.read_groups-2.ensures (lacked _ _ c.ok_or-3.ensures.value c.in_err-zoom.was))))

pub returns : goal.returns
unfolding three_says pupil_says
returns c =
    let same : to_z w32 (of_z w32 c.in_ok-pupil.pupil) ≡ c.in_ok-pupil.pupil = to_z-of_z {w = mir.Syntax.w32} (search rules) in
    rw same (sym (back_parts _ c.if-s-ne6.false ∙ right_both (gave 9 c.read_groups.ensures (had _ _ c.ok_or.ensures.value c.in_ok-view.was)) (right_both (ap pupil_says (sym c.read_pupil_packed.ensures ∙ had _ _ c.ok_or-2.ensures.value c.in_ok-pupil.was)) (gave 11 c.read_groups-2.ensures (had _ _ c.ok_or-3.ensures.value c.in_ok-zoom.was)))))
