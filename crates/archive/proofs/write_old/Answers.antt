-- `archive::write_old` meets its contract: 11, then the room decides. Assumes nothing.
use mathlib.Core.Path.{refl, sym, ap, ◌∙◌}
use native.Mathlib.Omega.{arith}
use borrow.Author.Tests.{eq-eqb, ne_eqb}
use Rattle.laws.specs.Over.{over}
use Rattle.laws.proofs.OverLaws.{last, next, run}
use Rattle.laws.proofs.Exits.{handed_up}
use Rattle.refusal.specs.declared.Refusal.TheVariants.{Lost}
use Rattle.frame.proofs.Answers.{room_fits, short_left, done_left}
use Rattle.frame.proofs.Laid.{moved, not_moved, moves_by}
use Rattle.text_writer.proofs.Written.{ten_long}
use Rattle.archive.specs.Old.{by_ten, old_form, old_length}
use Rattle.archive.specs.Archive.{old_line_length}
use Rattle.archive.proofs.Exact.{zoom_long, old_long, old_parts}
use Rattle.archive.proofs.Laws.{dropped_yes, dropped_no}
use Rattle.archive.proofs.write_old.Goals as goal

pub returns-then-f-ne0 : goal.returns-then-f-ne0
unfolding by_ten
returns-then-f-ne0 c = moves_by old_line_length _ (dropped_no _ (ne_eqb _ 0 c.if-f-ne0.true)) (not_moved old_line_length _ Lost)

pub returns-in_err-n : goal.returns-in_err-n
unfolding by_ten
returns-in_err-n c =
    let r = handed_up _ c.from_residual.ensures.1 in
    let room = r ∙ c.in_err-n.ensures in
    moves_by old_line_length _ (dropped_yes _ (eq-eqb _ 0 c.if-f-ne0.false))
    (moved old_line_length _ _ room (short_left old_form _ _ _ old_length (old_long _) room _ r))

pub put_zoom-requires : goal.put_zoom-requires
put_zoom-requires c =
    omega (arith, room_fits _ (sym c.in_ok-n.ensures))

pub returns : goal.returns
unfolding by_ten
returns c =
    let f = c.args.f in
    let room = c.in_ok-n.ensures in
    let contents =
    run (next _ c.put_ten.ensures (ten_long f) (last _ c.put_zoom.ensures (zoom_long _))) (omega (arith, room_fits _ (sym room)))
    ∙ ap (over _ 0) (old_parts f) in
    moves_by old_line_length _ (dropped_yes _ (eq-eqb _ 0 c.if-f-ne0.false))
    (moved old_line_length _ _ room (done_left old_form _ _ _ old_length (old_long _) room _ refl contents c.put_ending.ensures))
