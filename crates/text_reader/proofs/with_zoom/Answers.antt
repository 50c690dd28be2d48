-- `text_reader::with_zoom` meets its contract: the first wrong field of three, or all of them. Assumes nothing.
use mathlib.Core.Path.{◌≡◌, refl, sym, ap, ◌∙◌}
use mir.Facts.{to_z-of_z}
use mir.Syntax.{w32}
use mir.Val.{to_z, of_z}
use borrow.Author.Rules.{rules}
use borrow.Author.Tests.{ne_eqb}
use Rattle.laws.proofs.Tests.{no}
use Rattle.codec.proofs.Fields.{gave, refused, wrong_first, wrong_later, right_both}
use Rattle.pupil.specs.Pupil.{pupil_says}
use Rattle.gather.specs.Gather.{three_says}
use Rattle.text_reader.specs.Reader.{with_zoom}
use Rattle.text_reader.proofs.Parts.{zoom_parts}
use Rattle.text_reader.proofs.with_zoom.Goals as goal

pub returns-then-s-ne11 : goal.returns-then-s-ne11
unfolding three_says with_zoom
returns-then-s-ne11 c = no _ (ne_eqb _ _ c.if-s-ne11.true) refl

pub returns-in_default : goal.returns-in_default
unfolding three_says
returns-in_default c =
    sym (zoom_parts _ c.args.zoom c.if-s-ne11.false ∙ wrong_first _ (refused 9 c.read_view.ensures c.in_default.is))

pub returns-in_default-read_pupil_text : goal.returns-in_default-read_pupil_text
unfolding three_says pupil_says
returns-in_default-read_pupil_text c =
    sym
    (zoom_parts _ c.args.zoom c.if-s-ne11.false
    ∙ wrong_later (gave 9 c.read_view.ensures c.in-Some.is) (wrong_first _ (ap pupil_says (sym c.read_pupil_text.ensures ∙ c.in_default-read_pupil_text.is))))

pub returns-in_default-zoom : goal.returns-in_default-zoom
unfolding three_says pupil_says
returns-in_default-zoom c =
    sym
    (zoom_parts _ c.args.zoom c.if-s-ne11.false
    ∙ wrong_later (gave 9 c.read_view.ensures c.in-Some.is) (wrong_later (ap pupil_says (sym c.read_pupil_text.ensures ∙ c.in-Some-read_pupil_text.is)) (refused 11 refl c.in_default-zoom.is)))

pub returns : goal.returns
unfolding three_says pupil_says
returns c =
    let same : to_z w32 (of_z w32 c.in-Some-read_pupil_text.pupil) ≡ c.in-Some-read_pupil_text.pupil = to_z-of_z {w = mir.Syntax.w32} (search rules) in
    rw same
    (sym
    (zoom_parts _ c.args.zoom c.if-s-ne11.false
    ∙ right_both (gave 9 c.read_view.ensures c.in-Some.is) (right_both (ap pupil_says (sym c.read_pupil_text.ensures ∙ c.in-Some-read_pupil_text.is)) (gave 11 refl c.in-Some-zoom.is))))
