-- What the four entries with a port number have in common. Assumes nothing.
use mathlib.Core.Path.{◌≡◌, ap, ◌∙◌}
use Rattle.port.specs.declared.Port.{Port}
use Rattle.connectors.specs.declared.Side.{Side}
use Rattle.connectors.specs.declared.Connectors.{Connectors}
use Rattle.connectors.specs.Connectors.{port_at, with_port}

-- an entry of the named port, and the box with the port that it hands back
pub named_port : {X R : Type 0} (of : X → Connectors → R) (after : X → Port) (entry : Port → X) (b : Connectors) (a : Side) {x : X} {y : Connectors} {p : Port} →
    y ≡ with_port b a (after x) → x ≡ entry p → p ≡ port_at b a → of x y ≡ of (entry (port_at b a)) (with_port b a (after (entry (port_at b a))))
named_port {X} {R} of after entry b a {x} e f g = ap (of x) e ∙ ap (λ (x : X). of x (with_port b a (after x))) (f ∙ ap entry g)
