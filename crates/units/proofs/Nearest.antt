-- The conversion is what document 01 says: the nearest whole number, halves away from zero, the sign kept and zero plus; and no other number is.
-- Where the letters are alike it changes nothing. Assumes nothing.
use Prim.Native.Nat.{ℕ, zero, suc, ◌+◌, ◌*◌, ◌≤◌, ◌<◌}
use mathlib.Core.Bool.{Bool, true, false}
use mathlib.Core.Path.{◌≡◌, refl, sym, subst, ◌∙◌}
use native.Mathlib.Nat.{mul-add, lt_of_mul-lt-mul_left}
use native.Mathlib.Omega.{arith}
use borrow.Author.Tests.{eqb-true, eqb-false, eq-eqb}
use lib.Dec.{eqb}
use lib.IntN.{ℤ, pos, negsuc}
use Rattle.laws.proofs.Tests.{told}
use Rattle.sign.proofs.Law.{size_signed}
use Rattle.sign.specs.Sign.{size, below0, signed_of}
use Rattle.units.specs.Units.{is_unit, by_unit, hundredths, Nearest, Converts, size_in, number_in}

-- what holds for both letters holds for each
pub either : (P : ℕ → Type 0) → P 73 → P 77 → (u : ℕ) → is_unit u ≡ true → P u
either P i m u h =
    told (eqb u 73) (λ e. subst P (sym (eqb-true u 73 e)) i) (λ n. subst P (sym (eqb-true u 77 (rw n at h))) m)

-- ---- sizes

pub nearest_in : (n unit wanted : ℕ) → is_unit unit ≡ true → is_unit wanted ≡ true → Nearest (hundredths unit) (hundredths wanted) n (size_in unit wanted n)
unfolding by_unit size_in
nearest_in n unit wanted p q =
    either (λ (u : ℕ). Nearest (hundredths u) (hundredths wanted) n (size_in u wanted n))
    (either (λ (w : ℕ). Nearest 254 (hundredths w) n (size_in 73 w n))
    (record { low = omega arith; high = omega arith })
    (record { low = omega arith; high = omega arith })
    wanted q)
    (either (λ (w : ℕ). Nearest 100 (hundredths w) n (size_in 77 w n))
    (record { low = omega arith; high = omega arith })
    (record { low = omega arith; high = omega arith })
    wanted q)
    unit p

not_above : {num den n k k' : ℕ} → Nearest num den n k → Nearest num den n k' → k ≤ k'
not_above {num} {den} {n} {k} {k'} p q =
    let e : den * (2 * k' + 2) ≡ den * (2 * k' + 1) + den = rw (mul-add, mul-add) (omega arith) in
    let h : den * (2 * k) < den * (2 * k' + 2) = rw e (omega (arith, p.low, q.high)) in
    omega (arith, lt_of_mul-lt-mul_left den h)

pub one_nearest : {num den n k k' : ℕ} → Nearest num den n k → Nearest num den n k' → k ≡ k'
one_nearest p q = omega (arith, not_above p q, not_above q p)

-- ---- signs

sign_kept : (b : Bool) (n : ℕ) → 0 < n → below0 (signed_of b n) ≡ b
sign_kept false n h = refl
sign_kept true zero h = absurd (omega arith)
sign_kept true (suc n) h = refl

zero_plus : (b : Bool) (n : ℕ) → n ≡ 0 → below0 (signed_of b n) ≡ false
zero_plus false n h = refl
zero_plus true zero h = refl
zero_plus true (suc n) h = absurd (omega arith)

signed_back : (z : ℤ) → signed_of (below0 z) (size z) ≡ z
signed_back (pos n) = refl
signed_back (negsuc n) = refl

same : (r r' : ℤ) → size r ≡ size r' → below0 r ≡ below0 r' → r ≡ r'
same r r' p q = sym (signed_back r) ∙ (λ i. signed_of (q i) (p i)) ∙ signed_back r'

-- ---- numbers

pub converts : (unit wanted : ℕ) (z : ℤ) → is_unit unit ≡ true → is_unit wanted ≡ true → Converts unit wanted z (number_in unit wanted z)
unfolding number_in
converts unit wanted z p q =
    let k = size_in unit wanted (size z) in
    let s = size_signed (below0 z) k in
    record {
      nearest = subst (λ (m : ℕ). Nearest (hundredths unit) (hundredths wanted) (size z) m) (sym s) (nearest_in (size z) unit wanted p q);
      sign = λ h. sign_kept (below0 z) k (rw s at h);
      plus = λ h. zero_plus (below0 z) k (sym s ∙ h);
    }

pub one_converts : (unit wanted : ℕ) (z r r' : ℤ) → Converts unit wanted z r → Converts unit wanted z r' → r ≡ r'
one_converts unit wanted z r r' p q =
    let e : size r ≡ size r' = one_nearest p.nearest q.nearest in
    same r r' e
    (told (eqb (size r) 0)
    (λ y.
    let h = eqb-true (size r) 0 y in
    p.plus h ∙ sym (q.plus (sym e ∙ h)))
    (λ n.
    let h : 0 < size r = omega (arith, eqb-false (size r) 0 n) in
    p.sign h ∙ sym (q.sign (omega arith))))

size_alike : (unit n : ℕ) → size_in unit unit n ≡ n
unfolding size_in
size_alike unit n = rw (eq-eqb unit unit refl)

pub alike_unchanged : (unit : ℕ) (z : ℤ) → number_in unit unit z ≡ z
unfolding number_in
alike_unchanged unit z = rw (size_alike unit (size z)) (signed_back z)
