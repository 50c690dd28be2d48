-- `Connectors::receive` meets its contract: what the named port answers to the byte, or 12. Assumes nothing.
use mathlib.Core.Path.{refl, sym, ◌∙◌}
use Rattle.std.specs.Prelude.{Option}
use Rattle.laws.proofs.Tests.{at}
use Rattle.port.specs.declared.Port.{Port}
use Rattle.port.specs.declared.Received.{Received}
use Rattle.port.specs.Port.{receive_of}
use Rattle.connectors.specs.declared.Side.{Side}
use Rattle.connectors.specs.declared.Connectors.{Connectors}
use Rattle.connectors.specs.declared.ReceivedAt.{ReceivedAt}
use Rattle.connectors.specs.Connectors.{receive_in}
use Rattle.connectors.proofs.Laws.{named_port}
use Rattle.connectors.proofs.Connectors.receive.Goals as goal

abbrev of : Received → Connectors → ReceivedAt
of x b = record { verdict = x.verdict; connectors = b; line = x.line }

pub returns : goal.returns
unfolding receive_in
returns c =
    let a = c.args in
    at (λ (m : Option Side). receive_in a.self m a.line a.byte) (sym c.side_of.ensures ∙ c.in-Some.is)
    (named_port of (λ (r : Received). r.port) (λ (q : Port). receive_of q a.line a.byte) a.self c.in-Some.side
    c.with_port.ensures c.receive-received.ensures c.port_at.ensures)

pub returns-in_default : goal.returns-in_default
unfolding receive_in
returns-in_default c =
    let a = c.args in
    at (λ (m : Option Side). receive_in a.self m a.line a.byte) (sym c.side_of.ensures ∙ c.in_default.is) refl
