-- `nreader::owner_part` meets its contract: the part lies in the message. Assumes nothing.
use mathlib.Core.Path.{sym, ◌∙◌}
use native.Mathlib.Omega.{arith}
use Rattle.nreader.proofs.Owner.{owner_fits}
use Rattle.nreader.proofs.owner_part.Goals as goal

pub overflow_add-end : goal.overflow_add-end
overflow_add-end c = omega (arith, c.trimmed_length-end.ensures, owner_fits _ _ _ (sym c.read_fixed.ensures ∙ c.in-Ok.is))

pub slice_bounds-result-end-2 : goal.slice_bounds-result-end-2
slice_bounds-result-end-2 c = omega (arith, c.trimmed_length-end.ensures, owner_fits _ _ _ (sym c.read_fixed.ensures ∙ c.in-Ok.is))
