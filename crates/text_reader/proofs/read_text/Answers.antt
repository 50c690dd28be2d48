-- `text_reader::read_text` meets its contract: what the opening refuses is refused; else the contents decide. Assumes nothing.
use mathlib.Core.Path.{sym, ap, ◌∙◌}
use native.Mathlib.Omega.{arith}
use lib.Seq.{length-take-le}
use Rattle.laws.proofs.Exits.{handed_up}
use Rattle.codec.proofs.Fields.{parsed_whole}
use Rattle.frame.specs.Message.{found}
use Rattle.frame.proofs.Exactly.{opens}
use Rattle.frame.proofs.Answers.{reads_refused, reads_on}
use Rattle.record.specs.Forms.{text_length, text_form}
use Rattle.record.proofs.Exact.{text_form_width}
use Rattle.text_reader.proofs.read_text.Goals as goal

pub slice_bounds-read_contents-end : goal.slice_bounds-read_contents-end
slice_bounds-read_contents-end c = omega (arith, (opens _ text_length _ (sym c.in_ok-open.ensures)).long)

pub returns-in_err-open : goal.returns-in_err-open
returns-in_err-open c =
    handed_up _ c.from_residual.ensures.1 ∙ sym (reads_refused text_form text_length text_form_width _ _ _ (sym c.in_err-open.ensures))

pub returns : goal.returns
returns c =
    let o = sym c.in_ok-open.ensures in
    let m = c.args.m.now in
    let whole = length-take-le text_length m (omega (arith, (opens _ text_length _ o).long)) in
    c.read_contents.ensures ∙ sym (reads_on text_form text_length text_form_width _ _ o ∙ ap found (sym (parsed_whole text_form 1 text_form_width _ whole)))
