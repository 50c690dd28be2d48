-- `hourheron::heron_convert` meets its contract: the number, or the field, which is no greater than the one asked for. Assumes nothing.
use Prim.Native.Nat.{ℕ, ◌≤◌}
use mathlib.Core.Bool.{◌&&◌}
use mathlib.Core.Path.{◌≡◌, sym, ap, ◌∙◌}
use native.Mathlib.Omega.{arith}
use lib.IntN.{ℤ}
use Rattle.std.specs.Prelude.{Err, Ok}
use Rattle.laws.proofs.Tests.{told}
use Rattle.refusal.specs.Answer.{Answer, unless}
use Rattle.refusal.specs.Refusal.{value_of}
use Rattle.refusal.specs.declared.Refusal.{Refusal}
use Rattle.units.specs.Units.{is_unit, in_range, conversion}
use Rattle.hourheron.proofs.heron_convert.Goals as goal

-- the field that a refusal names: the one asked for, or 0
abbrev named : Answer ℤ → ℕ
named (Ok z) = 0
named (Err x) = value_of x

small : (i : ℕ) (z : ℤ) (u w : ℕ) → named (conversion i z u w) ≤ i
unfolding conversion unless
small i z u w =
    told (is_unit u && is_unit w)
    (λ t. told (in_range i z u) (λ s. rw (t, s) (omega arith)) (λ s. rw (t, s) (omega arith)))
    (λ t. rw t (omega arith))

refused_small : (i : ℕ) (z : ℤ) (u w : ℕ) {x : Refusal} → conversion i z u w ≡ Err x → value_of x ≤ i
refused_small i z u w e = omega (arith, small i z u w, ap named e)

pub overflow_cast-result : goal.overflow_cast-result
overflow_cast-result c =
    let h = refused_small _ _ _ _ (sym c.convert.ensures ∙ c.in-Err.is) in
    omega (arith, c.value_of.ensures, h)
