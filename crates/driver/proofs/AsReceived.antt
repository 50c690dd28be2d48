-- Collecting in place on a port of the box is what the box's receive does: as on one port (`in_place_lem`). Assumes nothing.
use Prim.Native.Nat.{ℕ}
use mathlib.Core.Bool.{true, false}
use mathlib.Core.Path.{◌≡◌, refl, sym, ap, ◌∙◌}
use Rattle.std.specs.Prelude.{None, Option, Some}
use Rattle.laws.proofs.Tests.{at, told, cond_yes, cond_no}
use Rattle.line.specs.declared.Line.{Line}
use Rattle.line.specs.Line.{valid_line}
use Rattle.collector.specs.Collect.{collected, line_after}
use Rattle.collector.proofs.Promises.{promised}
use Rattle.port.specs.declared.Port.{Port}
use Rattle.port.specs.declared.Received.{Received}
use Rattle.port.specs.Port.{valid_port, receive_of}
use Rattle.connectors.specs.declared.Side.{Side}
use Rattle.connectors.specs.declared.Connectors.{Connectors}
use Rattle.connectors.specs.Connectors.{side_of, port_at, with_port, receive_in}
use Rattle.connectors.specs.Promises.{BothValid}
use Rattle.walk.specs.InPlace.{port_in_place}
use Rattle.walk.proofs.InPlace.{in_place_lem}
use Rattle.driver.specs.Ports.{box_in_place, AsReceived}

module _ (p : Port) (l : Line) (x : ℕ) (v : valid_port p ≡ true) where
  -- the port stays where no line ended
  stays : (collected l x).ended ≡ false → (receive_of p l x).port ≡ p
  stays n =
      told (valid_line l)
      (λ w. (in_place_lem.joined p l x v n (promised.else_done l x w)).1)
      (λ w. (in_place_lem.refused p l x ((promised.by_case l x).1 w)).1)

  port : port_in_place p l x ≡ (receive_of p l x).port
  port =
      told (collected l x).ended
      (λ y. cond_yes _ _ y ∙ ap (λ (r : Received). r.port) (in_place_lem.ended p l x y))
      (λ n. cond_no _ _ n ∙ sym (stays n))

box : (b : Connectors) (m : Option Side) (l : Line) (x : ℕ) → BothValid b → box_in_place b m l x ≡ (receive_in b m l x).connectors
unfolding receive_in
box b (Some a) l x v = ap (with_port b a) (port (port_at b a) l x (v a))
box b None l x v = refl

line : (b : Connectors) (a : Side) (l : Line) (x : ℕ) → BothValid b → line_after l x ≡ (receive_in b (Some a) l x).line
unfolding receive_in
line b a l x v = sym (in_place_lem.line (port_at b a) l x (v a))

pub as_received : AsReceived
as_received = record {
  box = λ b n l x v. box b (side_of n) l x v;
  line = λ b n a l x v e. at (λ (m : Option Side). (receive_in b m l x).line) e (line b a l x v);
}
