-- `Port::measure` meets its contract: 16, then what the verdict on the measurement hands back. Assumes nothing.
use mathlib.Core.Path.{refl, sym, ap, ◌∙◌}
use Rattle.laws.proofs.Tests.{yes, no}
use Rattle.refusal.specs.Answer.{Verdict}
use Rattle.port.specs.Port.{handed, measured_port, measure_of}
use Rattle.port.proofs.Port.measure.Goals as goal

pub returns-then-not-is_valid : goal.returns-then-not-is_valid
unfolding measure_of
returns-then-not-is_valid c = no _ (sym c.is_valid.ensures ∙ c.if-not-is_valid.true) refl

pub returns : goal.returns
unfolding measure_of
returns c =
    let a = c.args in
    yes _ (sym c.is_valid.ensures ∙ c.if-not-is_valid.false)
    (c.handed_by.ensures ∙ ap (λ (v : Verdict). handed v (measured_port a.self a.measurement) a.self) c.check_measurement.ensures)
