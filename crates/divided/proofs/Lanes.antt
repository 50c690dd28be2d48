-- Numbers side by side in one word, each with its tens or its hundreds taken by one product, one quotient and one mask. Assumes nothing.
use Prim.Native.Nat.{ℕ, ◌+◌, ◌*◌, ◌/◌, ◌%◌, ◌<◌}
use mathlib.Core.Path.{◌≡◌, ap, ap₂, ◌∙◌}
use native.Mathlib.Nat.{mod-eq_of_lt, mul-add-mod_self_right}
use native.Mathlib.Omega.{arith}
use lib.Bits.{bit_and, and_block, and_mask}

-- the tens of the lowest lane, and those of the lanes above it
pub tens : (a b m : ℕ) → b < 100 → bit_and ((65536 * a + b) * 103 / 1024) (m * 65536 + 15) ≡ bit_and (a * 103 / 1024) m * 65536 + b / 10
tens a b m h =
    let k = 4 * (a * 103 % 1024) in
    let r = k * 16 + b * 103 / 1024 in
    let parts : (65536 * a + b) * 103 / 1024 ≡ a * 103 / 1024 * 65536 + r = omega arith in
    let quotient : b * 103 / 1024 ≡ b / 10 = omega arith in
    let low : r % 16 ≡ b / 10 = mul-add-mod_self_right k 16 (b * 103 / 1024) ∙ mod-eq_of_lt (omega (arith, quotient)) ∙ quotient in
    ap (λ (x : ℕ). bit_and x (m * 65536 + 15)) parts
    ∙ and_block 16 (a * 103 / 1024) m r 15 (omega arith) (omega arith)
    ∙ ap (λ (x : ℕ). bit_and (a * 103 / 1024) m * 65536 + x) (and_mask r 4 ∙ low)

-- those of the only lane
pub last_tens : (b : ℕ) → b < 100 → bit_and (b * 103 / 1024) 15 ≡ b / 10
last_tens b h =
    let quotient : b * 103 / 1024 ≡ b / 10 = omega arith in
    and_mask (b * 103 / 1024) 4 ∙ mod-eq_of_lt (omega (arith, quotient)) ∙ quotient

-- the hundreds of two halves
pub hundreds : (a b : ℕ) → a < 10000 → b < 10000 → bit_and ((4294967296 * a + b) * 10486 / 1048576) (127 * 4294967296 + 127) ≡ a / 100 * 4294967296 + b / 100
hundreds a b g h =
    let q = a * 10486 / 1048576 in
    let k = 32 * (a * 10486 % 1048576) in
    let r = k * 128 + b * 10486 / 1048576 in
    let parts : (4294967296 * a + b) * 10486 / 1048576 ≡ q * 4294967296 + r = omega arith in
    let first : q ≡ a / 100 = omega arith in
    let second : b * 10486 / 1048576 ≡ b / 100 = omega arith in
    let high : q % 128 ≡ a / 100 = mod-eq_of_lt (omega (arith, first)) ∙ first in
    let low : r % 128 ≡ b / 100 = mul-add-mod_self_right k 128 (b * 10486 / 1048576) ∙ mod-eq_of_lt (omega (arith, second)) ∙ second in
    ap (λ (x : ℕ). bit_and x (127 * 4294967296 + 127)) parts
    ∙ and_block 32 q 127 r 127 (omega arith) (omega arith)
    ∙ ap₂ (λ (x y : ℕ). x * 4294967296 + y) (and_mask q 7 ∙ high) (and_mask r 7 ∙ low)
