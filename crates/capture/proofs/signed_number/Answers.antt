-- `capture::signed_number` meets its contract: the number has nine digits. Assumes nothing.
use mathlib.Core.Path.{sym, ◌∙◌}
use Rattle.capture.proofs.Numbers.{number_low}
use Rattle.capture.proofs.signed_number.Goals as goal

pub signed-requires : goal.signed-requires
signed-requires c = number_low _ _ (sym c.digits_of.ensures ∙ c.in_ok-digits_of.was)
