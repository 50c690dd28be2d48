-- `transfer::by_record` meets its contract: what the reader refuses is refused, then what the writer of text does. Assumes nothing.
use mathlib.Core.Path.{sym}
use Rattle.laws.proofs.Exits.{handed_up}
use Rattle.frame.proofs.Laid.{exits_unmoved, moves_by}
use Rattle.transfer.specs.Transfer.{turned_length}
use Rattle.transfer.proofs.Turned.{turned_refused, turned_read, read_fits, written}
use Rattle.transfer.proofs.by_record.Goals as goal

pub returns-in_err-record : goal.returns-in_err-record
returns-in_err-record c =
    let a = c.args in
    moves_by (turned_length a.checksum) _ (turned_refused a.checksum _ (sym c.in_err-record.ensures))
    (exits_unmoved (turned_length a.checksum) _ (handed_up _ c.from_residual.ensures.1))

pub returns : goal.returns
returns c =
    let a = c.args in
    let read = sym c.in_ok-record.ensures in
    moves_by (turned_length a.checksum) _ (turned_read a.checksum _ read) (written a.checksum _ _ (read_fits a.checksum _ _ read) c.write_text.ensures)
