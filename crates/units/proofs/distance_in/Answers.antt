-- `units::distance_in` meets its contract: a distance is its size, which fits 31 bits. Assumes nothing.
use Prim.Native.Nat.{ℕ, ◌≤◌, ◌<◌, ◌^◌}
use mathlib.Core.Path.{◌≡◌, sym, ap, ◌∙◌}
use native.Mathlib.Omega.{arith}
use lib.IntN.{ℤ}
use mir.Syntax.{w32}
use mir.Facts.{to_z-of_z, to_z_pos}
use Rattle.sign.specs.Sign.{size, signed_of}
use Rattle.record.specs.Record.{top_distance}
use Rattle.units.specs.Units.{size_in, number_in}
use Rattle.units.proofs.Ranges.{size_bound}
use Rattle.units.proofs.distance_in.Goals as goal

pub size_in-n-requires : goal.size_in-n-requires
size_in-n-requires c = omega (arith, c.size_of.ensures ∙ ap size (to_z-of_z c.ranges.d))

-- a converted distance is small
small : (unit wanted : ℕ) (d : ℤ) {n r : ℕ} → size d ≤ top_distance → n ≡ size d → r ≡ size_in unit wanted n → r < 2 ^ 31
small unit wanted d {n = n} h k e = omega (arith, size_bound unit wanted n)

pub overflow_cast-result : goal.overflow_cast-result
overflow_cast-result c =
    record { sfits = small c.args.unit c.args.wanted c.args.d c.requires.small (c.size_of.ensures ∙ ap size (to_z-of_z c.ranges.d)) c.size_in-n.ensures }

pub returns : goal.returns
unfolding number_in
returns c =
    let sized = c.size_of.ensures ∙ ap size (to_z-of_z c.ranges.d) in
    to_z_pos w32 (small c.args.unit c.args.wanted c.args.d c.requires.small sized c.size_in-n.ensures)
    ∙ (λ i. signed_of (sym c.requires.plus i) ((c.size_in-n.ensures ∙ ap (size_in c.args.unit c.args.wanted) sized) i))
