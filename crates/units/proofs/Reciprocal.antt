-- Division by multiplication: where m is w / d rounded up, a number times m over w is exactly the number divided by d, as long as what the rounding
-- adds never reaches the next whole number. Assumes nothing.
use Prim.Native.Nat.{ℕ, ◌+◌, ◌-◌, ◌*◌, ◌/◌, ◌%◌, ◌≤◌, ◌<◌}
use mathlib.Core.Path.{◌≡◌, sym, ap, ◌∙◌}
use native.Mathlib.Nat.{div-add-mod', mod-lt, mul-le-mul_left}
use native.Mathlib.Omega.{arith}
use lib.Arith.{digits_div}

-- a number times m: w for each d in it, and what is left, e for each d and m for each of the remainder
product : (q d r m w e : ℕ) → m * d ≡ w + e → (q * d + r) * m ≡ q * w + (e * q + m * r)
product q d r m w e h = omega (arith, ap (λ (z : ℕ). q * z) h)

pub reciprocal : (x d m w e : ℕ) → 0 < d → m * d ≡ w + e → e * (x / d) + m * (d - 1) < w → x * m / w ≡ x / d
reciprocal x d m w e some h k =
    let r : m * (x % d) ≤ m * (d - 1) = mul-le-mul_left m (omega (arith, mod-lt x some)) in
    ap (λ (z : ℕ). z * m / w) (sym (div-add-mod' x d))
    ∙ ap (λ (z : ℕ). z / w) (product (x / d) d (x % d) m w e h)
    ∙ digits_div (x / d) (omega arith)
