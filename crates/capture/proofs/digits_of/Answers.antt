-- `capture::digits_of` meets its contract: no word is a number without a digit, and every other is read as digits. Assumes nothing.
use mathlib.Core.Path.{◌∙◌}
use Rattle.capture.proofs.Numbers.{number_none, number_some}
use Rattle.capture.proofs.digits_of.Goals as goal

pub returns-then-word-eq0 : goal.returns-then-word-eq0
returns-then-word-eq0 c = number_none _ c.if-word-eq0.true

pub returns : goal.returns
returns c = c.read_decimal.ensures ∙ number_some _ c.if-word-eq0.false
