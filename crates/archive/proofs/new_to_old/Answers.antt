-- `archive::new_to_old` meets its contract: what the line refuses is refused, then what the writer of an old line does. Assumes nothing.
use mathlib.Core.Path.{sym}
use Rattle.laws.proofs.Exits.{handed_up}
use Rattle.frame.proofs.Laid.{exits_unmoved, moves_by}
use Rattle.archive.specs.Archive.{old_line_length}
use Rattle.archive.proofs.Laws.{back_refused, back_read}
use Rattle.archive.proofs.new_to_old.Goals as goal

pub returns-in_err-record : goal.returns-in_err-record
returns-in_err-record c =
    moves_by old_line_length _ (back_refused _ (sym c.in_err-record.ensures)) (exits_unmoved old_line_length _ (handed_up _ c.from_residual.ensures.1))

pub returns : goal.returns
returns c = moves_by old_line_length _ (back_read _ (sym c.in_ok-record.ensures)) c.write_old.ensures
