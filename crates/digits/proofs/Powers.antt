-- The laws behind the decimal writer: what taking a part away leaves, what is counted while a power of ten is, and what each place leaves.
-- Assumes nothing.
use Rattle.std.proofs.Common.{◌≡◌, ℕ, suc, ◌+◌, ◌-◌, ◌*◌, ◌/◌, ◌%◌, ◌^◌, ◌<◌, ◌≤◌, List, ◌∷◌, length, set, sym, ap, ◌∙◌, mod-lt, mod-eq_of_lt, div-lt_iff_lt-mul, div-add-mod', arith}
use native.Mathlib.Nat.{mod-mod_of_dvd, dvd-mul_left, pow-succ', one-le-pow, pow-le-pow_right}
use lib.Arith.{mod-mul, digits_div, digits_mod}
use Rattle.laws.specs.Over.{over}
use Rattle.laws.proofs.OverLaws.{over_byte}
use Rattle.digits.specs.Digits.{digits, decimal}
use Rattle.digits.proofs.Laws.{length_digits}

-- ---- one step

module _ (x part rest : ℕ) (near : x < 2 * part) (small : part ≤ 2 ^ 31) (wraps : (rest + part) % 2 ^ 32 ≡ x) where
  -- the difference did not wrap: the part fitted
  pub fitted : rest < 2 ^ 31 → rest ≡ x % part
  fitted h =
      let e : x ≡ 1 * part + rest = omega arith in
      let low : rest < part = omega arith in
      sym (ap (λ (y : ℕ). y % part) e ∙ digits_mod 1 low)

  -- it wrapped: the part was more than there was
  pub unfitted : 2 ^ 31 ≤ rest → rest < 2 ^ 32 → x ≡ x % part
  unfitted h k =
      let low : x < part = omega arith in
      sym (mod-eq_of_lt low)

-- ---- four steps

pub steps : (x part : ℕ) → x % (8 * part) % (4 * part) % (2 * part) % part ≡ x % part
steps x part =
    mod-mod_of_dvd part (x % (8 * part) % (4 * part)) (dvd-mul_left part 2)
    ∙ mod-mod_of_dvd part (x % (8 * part)) (dvd-mul_left part 4)
    ∙ mod-mod_of_dvd part x (dvd-mul_left part 8)

regroup : (d p r : ℕ) → 0 < p → d * (256 * p - 1) + (256 * r + d) ≡ 256 * (d * p + r)
regroup d p r h =
    let e : d * (256 * p - 1 + 1) ≡ d * (256 * p) = ap (λ (y : ℕ). d * y) (omega arith) in
    omega (arith, e)

-- what is left when 256 p - 1 has been taken away: the number below p, and how often it was
pub counted : (n p : ℕ) → 0 < p → n < 10 * p → 256 * n % (256 * p - 1) ≡ 256 * (n % p) + n / p
counted n p some h =
    let below = mod-lt n some in
    let few : n / p < 10 = (div-lt_iff_lt-mul some).1 h in
    let fits : 256 * (n % p) + n / p < 256 * p - 1 = omega arith in
    let e : 256 * n ≡ n / p * (256 * p - 1) + (256 * (n % p) + n / p) = sym (regroup (n / p) p (n % p) some ∙ ap (λ (y : ℕ). 256 * y) (div-add-mod' n p)) in
    ap (λ (y : ℕ). y % (256 * p - 1)) e ∙ digits_mod (n / p) fits

-- ---- the places

pub power_some : (k : ℕ) → 0 < 10 ^ k
power_some k = one-le-pow k 10 (omega arith)

pub power_most : (k most : ℕ) → k ≤ most → 10 ^ k ≤ 10 ^ most
power_most k most h = pow-le-pow_right {n = 10} (omega arith) h

module _ (n k : ℕ) where
  -- what the places above the one with k zeros leave of n
  abbrev left : ℕ
  left = n % 10 ^ suc k

  -- its first digit is the place's
  digit : left / 10 ^ k ≡ n / 10 ^ k % 10
  digit = rw (pow-succ' 10 k, mod-mul n {m = 10} {c = 10 ^ k} (omega arith) (power_some k)) (digits_div (n / 10 ^ k % 10) (mod-lt n (power_some k)))

  -- and the rest stands below it
  rest : left % 10 ^ k ≡ n % 10 ^ k
  rest = rw (pow-succ' 10 k) (mod-mod_of_dvd (10 ^ k) n (dvd-mul_left (10 ^ k) 10))

  -- held, it may be split
  pub may_split : (x : ℕ) → k < 7 → x ≡ 256 * left → (k < 7) × (x % 256 ≡ 0) × (x / 256 < 10 ^ suc k)
  may_split x h e =
      let m : x / 256 ≡ left = omega arith in
      (h, omega arith, rw m (mod-lt n (power_some (suc k))))

  -- then the place's digit is counted in the low byte, and what is left stands above it
  pub splits : (x y : ℕ) → x ≡ 256 * left → y ≡ 256 * (x / 256 % 10 ^ k) + x / 256 / 10 ^ k →
      (y % 256 ≡ n / 10 ^ k % 10) × (y / 256 ≡ n % 10 ^ k)
  splits x y e f =
      let m : x / 256 ≡ left = omega arith in
      let g : y ≡ 256 * (n % 10 ^ k) + n / 10 ^ k % 10 = f ∙ rw (m, digit, rest) in
      let few : n / 10 ^ k % 10 < 10 = mod-lt (n / 10 ^ k) (omega arith) in
      (omega arith, omega arith)

-- ---- writing them

-- a digit stored, and the rest written behind it
pub turn : (d : List ℕ) (a v z n : ℕ) → a + suc z ≤ length d → v ≡ 48 + n / 10 ^ z % 10 →
    over (set d a v) (a + 1) (decimal z n) ≡ over d a (decimal (suc z) n)
unfolding digits
turn d a v z n room e =
    let l = length_digits 10 48 (omega arith) z n in
    over_byte d (decimal z n) a v (omega arith) ∙ ap (λ (w : ℕ). over d a (w ∷ decimal z n)) e
