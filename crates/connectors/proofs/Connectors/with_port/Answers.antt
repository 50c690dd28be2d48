-- `Connectors::with_port` meets its contract: side by side. Assumes nothing.
use mathlib.Core.Path.{ap}
use Rattle.laws.proofs.Tests.{at}
use Rattle.connectors.specs.declared.Connector.{Connector}
use Rattle.connectors.specs.declared.Side.{Side}
use Rattle.connectors.specs.Connectors.{with_port}
use Rattle.connectors.proofs.Connectors.with_port.Goals as goal

pub returns-in-Camera : goal.returns-in-Camera
returns-in-Camera c =
    let a = c.args in
    at (λ (x : Side). with_port a.self x a.port) c.in-Camera.is
    (ap (λ (x : Connector). record { settings = a.port.source.settings; camera = x; external = a.self.external }) c.own_of-after.ensures)

pub returns-in-External : goal.returns-in-External
returns-in-External c =
    let a = c.args in
    at (λ (x : Side). with_port a.self x a.port) c.in-External.is
    (ap (λ (x : Connector). record { settings = a.port.source.settings; camera = a.self.camera; external = x }) c.own_of-after-in-External.ensures)
