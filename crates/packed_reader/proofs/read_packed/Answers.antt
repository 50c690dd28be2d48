-- `packed_reader::read_packed` meets its contract: what the opening refuses is refused; else the contents decide. Assumes nothing.
use mathlib.Core.Path.{sym, ap, ◌∙◌}
use native.Mathlib.Omega.{arith}
use lib.Seq.{length-take-le}
use Rattle.laws.proofs.Exits.{handed_up}
use Rattle.codec.proofs.Fields.{parsed_whole}
use Rattle.frame.specs.Message.{found}
use Rattle.frame.proofs.Exactly.{opens}
use Rattle.frame.proofs.Answers.{reads_refused, reads_on}
use Rattle.record.specs.Forms.{packed_length, packed_form}
use Rattle.record.proofs.Exact.{packed_form_width}
use Rattle.packed_reader.proofs.read_packed.Goals as goal

pub slice_bounds-read_contents-end : goal.slice_bounds-read_contents-end
slice_bounds-read_contents-end c = omega (arith, (opens _ packed_length _ (sym c.in_ok-open.ensures)).long)

pub returns-in_err-open : goal.returns-in_err-open
returns-in_err-open c =
    handed_up _ c.from_residual.ensures.1 ∙ sym (reads_refused packed_form packed_length packed_form_width _ _ _ (sym c.in_err-open.ensures))

pub returns : goal.returns
returns c =
    let o = sym c.in_ok-open.ensures in
    let m = c.args.m.now in
    let whole = length-take-le packed_length m (omega (arith, (opens _ packed_length _ o).long)) in
    c.read_contents.ensures ∙ sym (reads_on packed_form packed_length packed_form_width _ _ o ∙ ap found (sym (parsed_whole packed_form 1 packed_form_width _ whole)))
