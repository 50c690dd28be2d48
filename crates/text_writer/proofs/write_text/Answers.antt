-- `text_writer::write_text` meets its contract: each `return` is a case of every writer's. Assumes nothing.
use mathlib.Core.Path.{refl, sym, ◌∙◌}
use Rattle.laws.proofs.Exits.{handed_up}
use Rattle.refusal.specs.declared.Refusal.TheVariants.{Field}
use Rattle.codec.proofs.Lowest.{some_named, none_named}
use Rattle.frame.proofs.Answers.{writes_wrong, writes_short, writes_done}
use Rattle.record.specs.Forms.{text_form, text_length}
use Rattle.record.proofs.Exact.{text_form_exact, text_form_width, text_lowest}
use Rattle.text_writer.proofs.write_text.Goals as goal

pub returns-in-Some : goal.returns-in-Some
returns-in-Some c =
    let d = some_named _ (sym c.in-Some.ensures) in
    writes_wrong text_form Field _ _ _ _ (d.0 ∙ sym (text_lowest _)) d.1

pub returns-in_err-n : goal.returns-in_err-n
returns-in_err-n c =
    let r = handed_up _ c.from_residual.ensures.1 in
    writes_short text_form Field _ _ _ (text_lowest _ ∙ none_named _ (sym c.in_default.ensures)) text_length text_form_width (text_form_exact.long _) (r ∙ c.in_err-n.ensures) _ r

pub returns : goal.returns
returns c =
    writes_done text_form Field _ _ _ (text_lowest _ ∙ none_named _ (sym c.in_default.ensures)) text_length text_form_width (text_form_exact.long _) c.in_ok-n.ensures _ refl
    c.put_text_record.ensures c.put_ending.ensures
