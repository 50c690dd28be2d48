-- `Connectors::unstarted` meets its contract. Assumes nothing.
use mathlib.Core.Path.{ap, ◌∙◌}
use Rattle.port.specs.declared.Port.{Port}
use Rattle.connectors.specs.declared.Connector.{Connector}
use Rattle.connectors.specs.Connectors.{own_of}
use Rattle.connectors.proofs.Connectors.unstarted.Goals as goal

pub returns : goal.returns
returns c =
    ap (λ (x : Connector). record { settings = c.unstarted-port.result.source.settings; camera = x; external = x }) c.own_of-own.ensures
    ∙ ap (λ (p : Port). record { settings = p.source.settings; camera = own_of p; external = own_of p }) c.unstarted-port.ensures
