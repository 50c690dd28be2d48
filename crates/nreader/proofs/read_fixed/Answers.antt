-- `nreader::read_fixed` meets its contract: the frame, then the contents. Assumes nothing.
use mathlib.Core.Path.{sym, ◌∙◌}
use native.Mathlib.Omega.{arith}
use Rattle.laws.proofs.Exits.{handed_up}
use Rattle.frame.proofs.Exactly.{opens}
use Rattle.frame.proofs.Answers.{reads_refused, reads_on}
use Rattle.fixed.specs.Form.{fixed_length, fixed_form}
use Rattle.fixed.proofs.Exact.{fixed_form_width}
use Rattle.nreader.proofs.read_fixed.Goals as goal

pub slice_bounds-read_contents-end : goal.slice_bounds-read_contents-end
slice_bounds-read_contents-end c = omega (arith, (opens _ _ _ (sym c.«open».ensures ∙ c.in_ok-open.was)).long)

pub returns-in_err-open : goal.returns-in_err-open
returns-in_err-open c =
    handed_up _ c.from_residual.ensures.1
    ∙ sym (reads_refused fixed_form fixed_length fixed_form_width _ _ _ (sym c.«open».ensures ∙ c.in_err-open.was))

pub returns : goal.returns
returns c =
    c.read_contents.ensures ∙ sym (reads_on fixed_form fixed_length fixed_form_width _ _ (sym c.«open».ensures ∙ c.in_ok-open.was))
