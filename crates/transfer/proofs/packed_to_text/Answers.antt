-- `transfer::packed_to_text` meets its contract: what is not right goes by the record; else the message is put. Assumes nothing.
use mathlib.Core.Path.{sym, ◌∙◌}
use native.Mathlib.Omega.{arith}
use lib.Seq.{length-take-le}
use Rattle.frame.proofs.Laid.{moves_by}
use Rattle.record.specs.Forms.{packed_length}
use Rattle.packed_bytes.proofs.Right.{accepted_so}
use Rattle.transfer.proofs.Turned.{turned_read, read_long}
use Rattle.transfer.proofs.packed_to_text.Goals as goal

pub refusal_of-requires : goal.refusal_of-requires
refusal_of-requires c = sym c.is_right.ensures ∙ c.if-not-is_right.true

pub returns-then-not-is_right : goal.returns-then-not-is_right
returns-then-not-is_right c = c.refusal_of.ensures _

pub slice_bounds-put_message-end : goal.slice_bounds-put_message-end
slice_bounds-put_message-end c =
    omega (arith, read_long _ _ _ (accepted_so _ _ (sym c.is_right.ensures ∙ c.if-not-is_right.false)))

pub put_message-requires : goal.put_message-requires
put_message-requires c =
    length-take-le packed_length c.args.m.now (read_long _ _ _ (accepted_so _ _ (sym c.is_right.ensures ∙ c.if-not-is_right.false)))

pub returns : goal.returns
returns c =
    moves_by _ _ (turned_read _ _ (accepted_so _ _ (sym c.is_right.ensures ∙ c.if-not-is_right.false))) c.put_message.ensures
