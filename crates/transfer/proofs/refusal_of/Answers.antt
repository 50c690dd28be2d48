-- `transfer::refusal_of` meets its contract: what the reader refuses is refused, and it accepts nothing here. Assumes nothing.
use mathlib.Core.Bool.{true, false}
use mathlib.Core.Path.{◌≡◌, sym, ap, ◌∙◌}
use Rattle.laws.proofs.Exits.{handed_up}
use Rattle.laws.proofs.Tests.{never}
use Rattle.refusal.specs.Answer.{is_accepted}
use Rattle.frame.specs.Message.{read_of}
use Rattle.frame.proofs.Laid.{exits_unmoved, moves_by}
use Rattle.record.specs.Forms.{packed_form}
use Rattle.transfer.specs.Transfer.{turned_length}
use Rattle.transfer.proofs.Turned.{turned_refused}
use Rattle.transfer.proofs.refusal_of.Goals as goal

pub returns-in_err-read_packed : goal.returns-in_err-read_packed
returns-in_err-read_packed c out =
    let a = c.args in
    moves_by (turned_length a.checksum) out (turned_refused a.checksum a.m.now (sym c.in_err-read_packed.ensures))
    (exits_unmoved (turned_length a.checksum) out (handed_up _ c.from_residual.ensures.1))

pub returns : goal.returns
returns c out =
    let answer = read_of packed_form c.args.checksum c.args.m.now in
    let yes : is_accepted answer ≡ true = ap is_accepted (sym c.in_ok-read_packed.ensures) in
    let no : is_accepted answer ≡ false = c.requires in
    never (cc (sym no ∙ yes))
