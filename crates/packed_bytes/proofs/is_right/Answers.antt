-- `packed_bytes::is_right` meets its contract: a message that opens, and whose contents are right. Assumes nothing.
use Prim.Native.Nat.{◌<◌}
use mathlib.Core.Path.{sym, ap, ◌∙◌}
use lib.ListN.{length}
use Rattle.refusal.specs.Answer.{is_accepted}
use Rattle.refusal.proofs.Answers.{done, not_done}
use Rattle.frame.proofs.Answers.{reads_refused, reads_on}
use Rattle.record.specs.Forms.{packed_form, packed_length}
use Rattle.record.proofs.Exact.{packed_form_width}
use Rattle.packed_bytes.proofs.Right.{got_found, too_short}
use Rattle.packed_bytes.specs.Bytes.{is_got}
use borrow.Author.Rules.{rules}
use Rattle.packed_bytes.proofs.is_right.Goals as goal

pub returns-in_default : goal.returns-in_default
returns-in_default c =
    let short : length c.args.m.now < packed_length = search rules in
    sym (too_short _ _ short)

pub returns-then-is_ok : goal.returns-then-is_ok
returns-then-is_ok c =
    let opened = sym c.«open».ensures ∙ done _ (sym c.if-is_ok.ensures.value) in
    c.is_record.ensures ∙ ap (λ s. is_got (packed_form.parse s)) c.in-Some.ensures.cases.same
    ∙ sym (ap is_accepted (reads_on packed_form packed_length packed_form_width _ _ opened) ∙ got_found _)

pub returns-else-is_ok : goal.returns-else-is_ok
returns-else-is_ok c =
    let refused = not_done _ (sym c.if-is_ok.ensures.value) in
    c.if-is_ok.false
    ∙ sym (ap is_accepted (reads_refused packed_form packed_length packed_form_width _ _ _ (sym c.«open».ensures ∙ refused.1)))
