-- `Connectors::port_at` meets its contract: side by side. Assumes nothing.
use Rattle.laws.proofs.Tests.{at}
use Rattle.connectors.specs.Connectors.{port_at}
use Rattle.connectors.proofs.Connectors.port_at.Goals as goal

pub returns-in-Camera : goal.returns-in-Camera
returns-in-Camera c =
    at (port_at c.args.self) c.in-Camera.is c.port_with.ensures

pub returns-in-External : goal.returns-in-External
returns-in-External c =
    at (port_at c.args.self) c.in-External.is c.port_with-in-External.ensures
