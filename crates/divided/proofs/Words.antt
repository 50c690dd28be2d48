-- The words of digits: what each line of `divided::four` and `divided::eight` says of n, and that the bytes of the last one are the digits.
-- Assumes nothing.
use Prim.Native.Nat.{ℕ, zero, suc, ◌+◌, ◌-◌, ◌*◌, ◌/◌, ◌%◌, ◌^◌, ◌<◌}
use mathlib.Core.List.{List, [], ◌∷◌}
use mathlib.Core.Path.{◌≡◌, refl, sym, ap, ap₂, ◌∙◌}
use native.Mathlib.Nat.{mod-lt}
use native.Mathlib.Omega.{arith}
use lib.Bits.{bit_and}
use Rattle.laws.specs.Lowest.{lowest_first, from_lowest}
use Rattle.digits.specs.Digits.{digits, decimal}
use Rattle.divided.proofs.Lanes.{tens, last_tens, hundreds}

byte : (k d v : ℕ) → d < 256 → lowest_first (suc k) (d + 256 * v) ≡ d ∷ lowest_first k v
unfolding lowest_first
byte k d v h =
    let above : (d + 256 * v) / 256 ≡ v = omega arith in
    ap₂ ◌∷◌ (omega (arith, above)) (ap (lowest_first k) above)

pub bytes_word : (k n : ℕ) → lowest_first k (from_lowest (decimal k n)) ≡ decimal k n
unfolding lowest_first from_lowest digits
bytes_word zero n = refl
bytes_word (suc k) n =
    let low : n / 10 ^ k % 10 < 10 = mod-lt (n / 10 ^ k) (omega arith) in
    byte k (48 + n / 10 ^ k % 10) (from_lowest (decimal k n)) (omega (arith, low))
    ∙ ap (λ (ds : List ℕ). (48 + n / 10 ^ k % 10) ∷ ds) (bytes_word k n)

-- ---- four digits: two lanes

module _ (n : ℕ) (small : n < 10000) where
  abbrev lanes_of_four : ℕ
  lanes_of_four = 65536 * n - 6553599 * (n / 100)

  two_lanes : lanes_of_four ≡ 65536 * (n % 100) + n / 100
  two_lanes = omega arith

  pub two_tens : bit_and (lanes_of_four * 103 / 1024) 983055 ≡ n % 100 / 10 * 65536 + n / 100 / 10
  two_tens =
      ap (λ (x : ℕ). bit_and (x * 103 / 1024) 983055) two_lanes
      ∙ tens (n % 100) (n / 100) 15 (omega arith)
      ∙ ap (λ (x : ℕ). x * 65536 + n / 100 / 10) (last_tens (n % 100) (omega arith))

  pub four_word : 256 * lanes_of_four - 2559 * bit_and (lanes_of_four * 103 / 1024) 983055 + 808464432 ≡ from_lowest (decimal 4 n)
  unfolding from_lowest digits
  four_word =
      let a : n / 1000 % 10 ≡ n / 100 / 10 = omega arith in
      let b : n / 10 % 10 ≡ n % 100 / 10 = omega arith in
      let c : n / 1 % 10 ≡ n % 100 % 10 = omega arith in
      omega (arith, two_lanes, two_tens, a, b, c)

-- ---- eight digits: two halves, then four lanes

characters : (p q r s l t : ℕ) → l ≡ 65536 * (65536 * (65536 * s + r) + q) + p → t ≡ ((s / 10 * 65536 + r / 10) * 65536 + q / 10) * 65536 + p / 10 →
    256 * l - 2559 * t + 3472328296227680304 ≡
    from_lowest ((48 + p / 10) ∷ (48 + p % 10) ∷ (48 + q / 10) ∷ (48 + q % 10) ∷ (48 + r / 10) ∷ (48 + r % 10) ∷ (48 + s / 10) ∷ (48 + s % 10) ∷ [])
unfolding from_lowest
characters p q r s l t h k = omega (arith, h, k)

below : (p q r s l : ℕ) → p < 100 → q < 100 → r < 100 → s < 100 → l ≡ 65536 * (65536 * (65536 * s + r) + q) + p → l < 28147497671065600
below p q r s l hp hq hr hs h = omega (arith, h)

low_digits : (p q r s l t : ℕ) → p < 100 → q < 100 → r < 100 → s < 100 →
    l ≡ 65536 * (65536 * (65536 * s + r) + q) + p → t ≡ ((s / 10 * 65536 + r / 10) * 65536 + q / 10) * 65536 + p / 10 → 256 * l - 2559 * t < 1152921504606846976
low_digits p q r s l t hp hq hr hs h k = omega (arith, h, k)

module _ (n : ℕ) (small : n < 100000000) where
  abbrev halves_of_eight : ℕ
  halves_of_eight = 4294967296 * n - 42949672959999 * (n / 10000)

  abbrev hundreds_of_eight : ℕ
  hundreds_of_eight = bit_and (halves_of_eight * 10486 / 1048576) 545460846719

  abbrev lanes_of_eight : ℕ
  lanes_of_eight = 65536 * halves_of_eight - 6553599 * hundreds_of_eight

  abbrev tens_of_eight : ℕ
  tens_of_eight = bit_and (lanes_of_eight * 103 / 1024) 4222189076152335

  abbrev first : ℕ
  first = n / 10000

  abbrev second : ℕ
  second = n % 10000

  two_halves : halves_of_eight ≡ 4294967296 * second + first
  two_halves = omega arith

  pub two_hundreds : hundreds_of_eight ≡ second / 100 * 4294967296 + first / 100
  two_hundreds =
      ap (λ (x : ℕ). bit_and (x * 10486 / 1048576) 545460846719) two_halves
      ∙ hundreds second first (omega arith) (omega arith)

  pub four_lanes : lanes_of_eight ≡ 65536 * (65536 * (65536 * (second % 100) + second / 100) + first % 100) + first / 100
  four_lanes = omega (arith, two_halves, two_hundreds)

  pub lanes_fit : lanes_of_eight < 28147497671065600
  lanes_fit = below (first / 100) (first % 100) (second / 100) (second % 100) lanes_of_eight (omega arith) (omega arith) (omega arith) (omega arith) four_lanes

  pub four_tens : tens_of_eight ≡ ((second % 100 / 10 * 65536 + second / 100 / 10) * 65536 + first % 100 / 10) * 65536 + first / 100 / 10
  four_tens =
      ap (λ (x : ℕ). bit_and (x * 103 / 1024) 4222189076152335) four_lanes
      ∙ tens (65536 * (65536 * (second % 100) + second / 100) + first % 100) (first / 100) 64425492495 (omega arith)
      ∙ ap (λ (x : ℕ). x * 65536 + first / 100 / 10)
      (tens (65536 * (second % 100) + second / 100) (first % 100) 983055 (omega arith)
      ∙ ap (λ (x : ℕ). x * 65536 + first % 100 / 10)
      (tens (second % 100) (second / 100) 15 (omega arith)
      ∙ ap (λ (x : ℕ). x * 65536 + second / 100 / 10) (last_tens (second % 100) (omega arith))))

  pub digits_fit : 256 * lanes_of_eight - 2559 * tens_of_eight < 1152921504606846976
  digits_fit =
      low_digits (first / 100) (first % 100) (second / 100) (second % 100) lanes_of_eight tens_of_eight (omega arith) (omega arith) (omega arith) (omega arith)
      four_lanes four_tens

  eight_digits : decimal 8 n ≡ (48 + first / 100 / 10) ∷ (48 + first / 100 % 10) ∷ (48 + first % 100 / 10) ∷ (48 + first % 100 % 10)
      ∷ (48 + second / 100 / 10) ∷ (48 + second / 100 % 10) ∷ (48 + second % 100 / 10) ∷ (48 + second % 100 % 10) ∷ []
  unfolding digits
  eight_digits =
      ap₂ ◌∷◌ (omega arith) (ap₂ ◌∷◌ (omega arith) (ap₂ ◌∷◌ (omega arith) (ap₂ ◌∷◌ (omega arith)
      (ap₂ ◌∷◌ (omega arith) (ap₂ ◌∷◌ (omega arith) (ap₂ ◌∷◌ (omega arith) (ap₂ ◌∷◌ (omega arith) refl)))))))

  pub eight_word : 256 * lanes_of_eight - 2559 * tens_of_eight + 3472328296227680304 ≡ from_lowest (decimal 8 n)
  unfolding from_lowest
  eight_word = characters (first / 100) (first % 100) (second / 100) (second % 100) lanes_of_eight tens_of_eight four_lanes four_tens ∙ ap from_lowest (sym eight_digits)
