-- `gather::with_serial` meets its contract: the first wrong of fields 1 to 11, then the serial. Assumes nothing.
use mathlib.Core.Path.{sym, ap, ◌∙◌}
use Rattle.laws.proofs.Exits.{handed_up}
use Rattle.frame.specs.Message.{found}
use Rattle.gather.proofs.Laws.{figures_wrong, serial_short, serial_wrong, all_found}
use Rattle.gather.proofs.with_serial.Goals as goal

pub returns-in_err-figures : goal.returns-in_err-figures
unfolding found
returns-in_err-figures c = handed_up _ c.from_residual.ensures.1 ∙ ap found (sym (figures_wrong _ c.in_err-figures.was))

pub returns-then-s-ne10 : goal.returns-then-s-ne10
unfolding found
returns-then-s-ne10 c = ap found (sym (serial_short _ c.in_ok-figures.was c.if-s-ne10.true))

pub returns-then-not-is_behind : goal.returns-then-not-is_behind
unfolding found
returns-then-not-is_behind c =
    ap found (sym (serial_wrong _ c.in_ok-figures.was c.if-s-ne10.false (sym c.is_behind.ensures ∙ c.if-not-is_behind.true)))

pub returns : goal.returns
unfolding found
returns c =
    ap found
    (sym (all_found _ c.in_ok-figures.was c.if-s-ne10.false (sym c.is_behind.ensures ∙ c.if-not-is_behind.false) c.nine_of-serial.ensures))
