-- The box, by what a port's number names: a fill counts no more than there is room for, and a received byte leaves it as `box_in_place` has it. Assumes
-- nothing.
use Prim.Native.Nat.{ℕ, ◌≤◌}
use mathlib.Core.Bool.{true, false}
use mathlib.Core.Path.{◌≡◌, refl, ap}
use native.Mathlib.Omega.{arith}
use Rattle.std.specs.Prelude.{None, Option, Some}
use Rattle.laws.proofs.Tests.{yes, no}
use Rattle.line.specs.declared.Line.{Line}
use Rattle.collector.specs.Collect.{collected}
use Rattle.fill.proofs.Promises.{promised}
use Rattle.connectors.specs.declared.Side.{Side}
use Rattle.connectors.specs.declared.Side.TheVariants.{Camera, External}
use Rattle.connectors.specs.declared.Connectors.{Connectors}
use Rattle.connectors.specs.Connectors.{port_at, with_port, fill_in, receive_in}
use Rattle.driver.specs.Ports.{box_in_place}

pub at_most : (b : Connectors) (m : Option Side) (room : ℕ) → (fill_in b m room).count ≤ room
unfolding fill_in
at_most b (Some a) room = promised.at_most (port_at b a) room
at_most b None room = omega arith

-- a byte that ended a line, and one that joined it
pub ended : (b : Connectors) (m : Option Side) (l : Line) (x : ℕ) → (collected l x).ended ≡ true → (receive_in b m (collected l x).line x).connectors ≡ box_in_place b m l x
unfolding receive_in
ended b (Some a) l x e = ap (with_port b a) (yes _ e refl)
ended b None l x e = refl

pub joined : (b : Connectors) (m : Option Side) (l : Line) (x : ℕ) → (collected l x).ended ≡ false → b ≡ box_in_place b m l x
joined b (Some Camera) l x e = ap (with_port b Camera) (no _ e refl)
joined b (Some External) l x e = ap (with_port b External) (no _ e refl)
joined b None l x e = refl
