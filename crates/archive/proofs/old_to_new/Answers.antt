-- `archive::old_to_new` meets its contract: what the line refuses is refused, then what the writer of a record does. Assumes nothing.
use mathlib.Core.Bool.{false}
use mathlib.Core.Path.{sym, ap, ◌∙◌}
use native.Mathlib.Omega.{arith}
use Rattle.laws.proofs.Exits.{handed_up}
use Rattle.refusal.specs.declared.Refusal.TheVariants.{Field}
use Rattle.frame.specs.Message.{found}
use Rattle.frame.proofs.Exactly.{opens}
use Rattle.frame.proofs.Answers.{reads_refused, reads_on}
use Rattle.frame.proofs.Laid.{exits_unmoved, moves_by}
use Rattle.frame.proofs.Stands.{writes_alike}
use Rattle.record.specs.Forms.{text_form}
use Rattle.record.proofs.Exact.{text_lowest}
use Rattle.gather.specs.Gather.{eleven_says}
use Rattle.serial.proofs.Given.{stands_record}
use Rattle.archive.specs.Old.{old_form, old_length}
use Rattle.archive.specs.Archive.{new_line_length}
use Rattle.archive.proofs.Exact.{old_width}
use Rattle.archive.proofs.Laws.{forward_refused, forward_read, read_fits, added_written}
use Rattle.archive.proofs.old_to_new.Goals as goal

pub slice_bounds-read_old-end : goal.slice_bounds-read_old-end
slice_bounds-read_old-end c = omega (arith, (opens _ old_length _ (sym c.in_ok-open.ensures)).long)

pub returns-in_err-open : goal.returns-in_err-open
returns-in_err-open c =
    moves_by new_line_length _
    (forward_refused _ _ (reads_refused old_form old_length old_width false _ _ (sym c.in_err-open.ensures)))
    (exits_unmoved new_line_length _ (handed_up _ c.from_residual.ensures.1))

pub returns-in_err-figures : goal.returns-in_err-figures
unfolding found eleven_says
returns-in_err-figures c =
    moves_by new_line_length _
    (forward_refused _ _ (reads_on old_form old_length old_width false _ (sym c.in_ok-open.ensures) ∙ ap found (sym c.read_old.ensures ∙ ap eleven_says c.in_err-figures.was)))
    (exits_unmoved new_line_length _ (handed_up _ c.from_residual-in_err-figures.ensures.1))

pub returns : goal.returns
unfolding found eleven_says
returns c =
    let read = reads_on old_form old_length old_width false c.args.m.now (sym c.in_ok-open.ensures) ∙ ap found (sym c.read_old.ensures ∙ ap eleven_says c.in_ok-figures.was) in
    moves_by new_line_length _ (forward_read _ c.args.text.now read)
    (added_written _ c.args.text.now _ (read_fits _ _ read).0
    (writes_alike text_form Field false _ (stands_record text_form text_lowest _ c.args.text.now c.record_from.ensures) c.write_text.ensures))
