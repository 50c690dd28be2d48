-- The box in the hands of a driver that keeps each port's collector in place. The contracts cite it.
use Rattle.std.specs.Prelude.{ℕ, ◌≤◌, ◌≡◌, None, Option, Some}
use Rattle.line.specs.declared.Line.{Line}
use Rattle.collector.specs.Collect.{line_after}
use Rattle.connectors.specs.declared.Side.{Side}
use Rattle.connectors.specs.declared.Connectors.{Connectors}
use Rattle.connectors.specs.Connectors.{side_of, port_at, with_port, receive_at, fill_at}
use Rattle.connectors.specs.Promises.{BothValid}
use Rattle.walk.specs.InPlace.{port_in_place}

-- a received byte on a port: it does what one port does, and the rest of the box stays
abbrev pub box_in_place : Connectors → Option Side → Line → ℕ → Connectors
box_in_place b (Some a) l x = with_port b a (port_in_place (port_at b a) l x)
box_in_place b None l x = b

-- so it is what the box's own receive does, of which all is proved
pub record AsReceived : Type 0 where
  pub box : (b : Connectors) (n : ℕ) (l : Line) (x : ℕ) → BothValid b → box_in_place b (side_of n) l x ≡ (receive_at b n l x).connectors
  pub line : (b : Connectors) (n : ℕ) (a : Side) (l : Line) (x : ℕ) → BothValid b → side_of n ≡ Some a → line_after l x ≡ (receive_at b n l x).line

-- a port of the box has run so many slots, at most
pub record Ran (b : Connectors) (number most : ℕ) (after : Connectors) : Type 0 where
  pub slots : ℕ
  pub at_most : slots ≤ most
  pub runs : after ≡ (fill_at b number slots).connectors
