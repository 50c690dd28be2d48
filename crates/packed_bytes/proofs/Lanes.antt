-- Four groups of six bits in one word: the low bits of the first and the third by one mask, those of the others by another. Assumes nothing.
use Prim.Native.Nat.{ℕ, ◌+◌, ◌*◌, ◌/◌, ◌%◌, ◌<◌}
use mathlib.Core.List.{List, [], ◌∷◌}
use mathlib.Core.Path.{◌≡◌, ap, ap₂, ◌∙◌}
use native.Mathlib.Nat.{mod-lt, mul-add-mod_self_right}
use native.Mathlib.Omega.{arith}
use lib.Bits.{bit_and, and_block, and_mask}
use lib.ListN.{length, get_or}
use Rattle.packed_bytes.specs.Bytes.{sixes, quad_of, quad_in}

-- the low six bits of two lanes of 16
lanes : (a b : ℕ) → a < 65536 → bit_and (b * 65536 + a) 4128831 ≡ b % 64 * 65536 + a % 64
lanes a b h =
    and_block 16 b 63 a 63 h (omega arith) ∙ ap₂ (λ (x y : ℕ). x * 65536 + y) (and_mask b 6) (and_mask a 6)

-- what is above a byte does not show there
low : (a b : ℕ) → (4 * b * 64 + a) % 64 ≡ a % 64
low a b = mul-add-mod_self_right (4 * b) 64 a

module _ (a b c d x : ℕ) (p : a < 256) (q : b < 256) (r : c < 256) (s : d < 256) (e : x ≡ quad_of a b c d) where
  odd : bit_and x 4128831 ≡ c % 64 * 65536 + a % 64
  odd =
      let f : x ≡ (4 * d * 64 + c) * 65536 + (4 * b * 64 + a) = omega (arith, e) in
      ap (λ (y : ℕ). bit_and y 4128831) f ∙ lanes (4 * b * 64 + a) (4 * d * 64 + c) (omega arith)
      ∙ ap₂ (λ (y z : ℕ). y * 65536 + z) (low c d) (low a b)

  even : bit_and (x / 256) 4128831 ≡ d % 64 * 65536 + b % 64
  even =
      let f : x / 256 ≡ d * 65536 + (4 * c * 64 + b) = omega (arith, e) in
      ap (λ (y : ℕ). bit_and y 4128831) f ∙ lanes (4 * c * 64 + b) d (omega arith)
      ∙ ap (λ (z : ℕ). d % 64 * 65536 + z) (low b c)

-- the two pairs
paired : (a b c d u v : ℕ) → a < 64 → b < 64 → c < 64 → d < 64 → u ≡ c * 65536 + a → v ≡ d * 65536 + b →
    (64 * u + v) % 65536 * 4096 + (64 * u + v) / 65536 ≡ a * 262144 + (b * 4096 + (c * 64 + d))
paired a b c d u v p q r s e f =
    let above : (64 * u + v) / 65536 ≡ c * 64 + d = omega (arith, e, f) in
    omega (arith, e, f, above)

four_in_lem : (s : List ℕ) → length s ≡ 4 → get_or s 0 0 % 64 * 262144 + (get_or s 1 0 % 64 * 4096 + (get_or s 2 0 % 64 * 64 + get_or s 3 0 % 64)) ≡ sixes s
unfolding sixes
four_in_lem (a ∷ b ∷ c ∷ d ∷ []) l = omega arith
four_in_lem [] l = absurd (omega arith)
four_in_lem (a ∷ []) l = absurd (omega arith)
four_in_lem (a ∷ b ∷ []) l = absurd (omega arith)
four_in_lem (a ∷ b ∷ c ∷ []) l = absurd (omega arith)
four_in_lem (a ∷ b ∷ c ∷ d ∷ e ∷ s) l = absurd (omega arith)

-- so the pairs say the number
module _ (s : List ℕ) (long : length s ≡ 4) (byte : (i : ℕ) → get_or s i 0 < 256) (x : ℕ)
    (e : x ≡ quad_in s) where
  abbrev pairs : ℕ
  pairs = 64 * bit_and x 4128831 + bit_and (x / 256) 4128831

  pub pairs_say : pairs % 65536 * 4096 + pairs / 65536 ≡ sixes s
  pairs_say =
      let a = get_or s 0 0 in
      let b = get_or s 1 0 in
      let c = get_or s 2 0 in
      let d = get_or s 3 0 in
      paired (a % 64) (b % 64) (c % 64) (d % 64) (bit_and x 4128831) (bit_and (x / 256) 4128831)
      (mod-lt a (omega arith)) (mod-lt b (omega arith)) (mod-lt c (omega arith)) (mod-lt d (omega arith))
      (odd a b c d x (byte 0) (byte 1) (byte 2) (byte 3) e) (even a b c d x (byte 0) (byte 1) (byte 2) (byte 3) e)
      ∙ four_in_lem s long
