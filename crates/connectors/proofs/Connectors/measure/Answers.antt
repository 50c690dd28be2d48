-- `Connectors::measure` meets its contract: what the named port answers to the measurement, or 12. Assumes nothing.
use mathlib.Core.Path.{refl, sym, ◌∙◌}
use Rattle.std.specs.Prelude.{Option}
use Rattle.laws.proofs.Tests.{at}
use Rattle.port.specs.declared.Port.{Port}
use Rattle.port.specs.declared.Handed.{Handed}
use Rattle.port.specs.Port.{measure_of}
use Rattle.connectors.specs.declared.Side.{Side}
use Rattle.connectors.specs.declared.Connectors.{Connectors}
use Rattle.connectors.specs.declared.HandedAt.{HandedAt}
use Rattle.connectors.specs.Connectors.{measure_in}
use Rattle.connectors.proofs.Laws.{named_port}
use Rattle.connectors.proofs.Connectors.measure.Goals as goal

abbrev of : Handed → Connectors → HandedAt
of x b = record { verdict = x.verdict; connectors = b }

pub returns : goal.returns
unfolding measure_in
returns c =
    let a = c.args in
    at (λ (m : Option Side). measure_in a.self m a.measurement) (sym c.side_of.ensures ∙ c.in-Some.is)
    (named_port of (λ (h : Handed). h.port) (λ (q : Port). measure_of q a.measurement) a.self c.in-Some.side
    c.with_port.ensures c.measure-handed.ensures c.port_at.ensures)

pub returns-in_default : goal.returns-in_default
unfolding measure_in
returns-in_default c =
    let a = c.args in
    at (λ (m : Option Side). measure_in a.self m a.measurement) (sym c.side_of.ensures ∙ c.in_default.is) refl
