-- `units::pupil_in` meets its contract: the sign, and the converted size, which fits 16 bits. Assumes nothing.
use mathlib.Core.Path.{◌≡◌, ap, ◌∙◌}
use native.Mathlib.Omega.{arith}
use mir.Syntax.{w32}
use mir.Val.{to_z, of_z}
use mir.Facts.{to_z-of_z}
use borrow.Author.Rules.{rules}
use Rattle.sign.specs.Sign.{size, below0, signed_of}
use Rattle.units.specs.Units.{size_in, number_in}
use Rattle.units.proofs.Ranges.{size_bound}
use Rattle.units.proofs.pupil_in.Goals as goal

pub size_in-n-requires : goal.size_in-n-requires
size_in-n-requires c = omega (arith, c.size_of.ensures ∙ ap size (to_z-of_z c.ranges.e))

pub overflow_cast-n : goal.overflow_cast-n
overflow_cast-n c =
    let sized = c.size_of.ensures ∙ ap size (to_z-of_z c.ranges.e) in
    record { fits = omega (arith, sized, c.size_in-n.ensures, size_bound c.args.unit c.args.wanted c.size_of.result) }

pub returns : goal.returns
unfolding number_in
returns c =
    let z : to_z w32 (of_z w32 c.signed_of.result) ≡ c.signed_of.result = to_z-of_z {w = w32} (search rules) in
    let own = to_z-of_z c.ranges.e in
    let n = c.size_in-n.ensures ∙ ap (size_in c.args.unit c.args.wanted) (c.size_of.ensures ∙ ap size own) in
    z ∙ c.signed_of.ensures ∙ (λ i. signed_of ((c.is_below.ensures ∙ ap below0 own) i) (n i))
