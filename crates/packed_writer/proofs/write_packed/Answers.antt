-- `packed_writer::write_packed` meets its contract: each `return` is a case of every writer's. Assumes nothing.
use mathlib.Core.Path.{refl, sym, ◌∙◌}
use Rattle.laws.proofs.Exits.{handed_up}
use Rattle.refusal.specs.declared.Refusal.TheVariants.{Field}
use Rattle.codec.proofs.Lowest.{some_named, none_named}
use Rattle.frame.proofs.Answers.{writes_wrong, writes_short, writes_done}
use Rattle.record.specs.Forms.{packed_form, packed_length}
use Rattle.record.proofs.Exact.{packed_form_exact, packed_form_width, packed_lowest}
use Rattle.packed_writer.proofs.write_packed.Goals as goal

pub returns-in-Some : goal.returns-in-Some
returns-in-Some c =
    let d = some_named _ (sym c.in-Some.ensures) in
    writes_wrong packed_form Field _ _ _ _ (d.0 ∙ sym (packed_lowest _)) d.1

pub returns-in_err-n : goal.returns-in_err-n
returns-in_err-n c =
    let r = handed_up _ c.from_residual.ensures.1 in
    writes_short packed_form Field _ _ _ (packed_lowest _ ∙ none_named _ (sym c.in_default.ensures)) packed_length packed_form_width (packed_form_exact.long _) (r ∙ c.in_err-n.ensures) _ r

pub returns : goal.returns
returns c =
    writes_done packed_form Field _ _ _ (packed_lowest _ ∙ none_named _ (sym c.in_default.ensures)) packed_length packed_form_width (packed_form_exact.long _) c.in_ok-n.ensures _ refl
    c.put_packed_record.ensures c.put_ending.ensures
