-- Hex digits read back, and a number is written without a zero before it: by the range that each test of a digit and of a width leaves. Assumes nothing.
use Prim.Native.Nat.{ℕ, suc, ◌+◌, ◌-◌, ◌/◌, ◌^◌, ◌≤◌, ◌<◌}
use mathlib.Core.Bool.{true}
use mathlib.Core.List.{List, [], ◌∷◌, ◌++◌}
use Rattle.refusal.specs.Refusal.{number_of}
use Rattle.port.specs.declared.Port.{Port}
use Rattle.port.specs.Port.{slot_of}
use mathlib.Core.Logic.{◌⊎◌, ◌≢◌, inl, inr, ⊎_elim}
use mathlib.Core.Path.{◌≡◌, refl, ap, ◌∙◌}
use native.Mathlib.Nat.{mod-eq_of_lt, pow-succ', one-le-pow, le-div_iff_mul-le, div-lt_iff_lt-mul}
use native.Mathlib.Omega.{arith}
use borrow.Author.Tests.{ltb-true, ltb-false, lt-ltb, ne_eqb}
use lib.Dec.{ltb}
use lib.ListN.{length, get_or}
use Rattle.laws.proofs.Tests.{cond_yes, cond_no, by}
use Rattle.digits.specs.Digits.{digits, value, are_digits, decimal}
use Rattle.digits.proofs.Laws.{length_digits, are_digits_lem, value_digits}
use Rattle.capture.proofs.Texts.{hex_reads}
use Rattle.printed.specs.Printed.{hex_digit, width_of, numeral, labelled, slot_text, separator, slots_text}
use Rattle.printed.specs.Promises.{Characters}
use Rattle.printed.proofs.Laws.{length_slots}

-- ---- hex

-- 0..9 or a..f, and the digit's place among them
hex_is : (n : ℕ) → n < 16 →
    ((48 ≤ hex_digit n) × (hex_digit n ≤ 57) × (n ≡ hex_digit n - 48)) ⊎ ((97 ≤ hex_digit n) × (hex_digit n ≤ 102) × (n ≡ hex_digit n - 87))
unfolding hex_digit
hex_is n h =
    by (λ (d : ℕ). ((48 ≤ d) × (d ≤ 57) × (n ≡ d - 48)) ⊎ ((97 ≤ d) × (d ≤ 102) × (n ≡ d - 87))) (ltb n 10) (48 + n) (97 + (n - 10))
    (λ y. let k = ltb-true n 10 y in inl (omega arith, omega arith, omega arith))
    (λ y. let k = ltb-false n 10 y in inr (omega arith, omega arith, omega arith))

-- ---- decimal

-- w digits, so many of them behind the first: they hold a number below 10 ^ 6, and the first of two or more is no zero
record Wide (n w : ℕ) : Type 0 where
  behind : ℕ
  wide : w ≡ suc behind
  few : behind ≤ 5
  top : n < 10 ^ 6 → n < 10 ^ suc behind
  low : 10 ≤ n → 10 ^ behind ≤ n

-- by the five tests
wide_of : (n : ℕ) → Wide n (width_of n)
unfolding width_of
wide_of n =
    by (Wide n) (ltb n 10) _ _
    (λ y. let k = ltb-true n 10 y in record { behind = 0; wide = refl; few = omega arith; top = λ t. omega arith; low = λ l. omega arith })
    (λ a.
    by (Wide n) (ltb n 100) _ _
    (λ y. let k = ltb-true n 100 y in record { behind = 1; wide = refl; few = omega arith; top = λ t. omega arith; low = λ l. omega arith })
    (λ b.
    let l₂ = ltb-false n 100 b in
    by (Wide n) (ltb n 1000) _ _
    (λ y. let k = ltb-true n 1000 y in record { behind = 2; wide = refl; few = omega arith; top = λ t. omega arith; low = λ l. omega arith })
    (λ c.
    let l₃ = ltb-false n 1000 c in
    by (Wide n) (ltb n 10000) _ _
    (λ y. let k = ltb-true n 10000 y in record { behind = 3; wide = refl; few = omega arith; top = λ t. omega arith; low = λ l. omega arith })
    (λ d.
    let l₄ = ltb-false n 10000 d in
    by (Wide n) (ltb n 100000) _ _
    (λ y. let k = ltb-true n 100000 y in record { behind = 4; wide = refl; few = omega arith; top = λ t. omega arith; low = λ l. omega arith })
    (λ f. let l₅ = ltb-false n 100000 f in record { behind = 5; wide = refl; few = omega arith; top = λ t. omega arith; low = λ l. omega arith })))))

pub length_numeral : (n : ℕ) → length (numeral n) ≡ width_of n
length_numeral n = length_digits 10 48 (omega arith) (width_of n) n

pub six_at_most : (n : ℕ) → length (numeral n) ≤ 6
six_at_most n = let w = wide_of n in rw (length_numeral n) (omega arith)

reads : (n : ℕ) → n < 10 ^ 6 → (are_digits 10 48 (numeral n) ≡ true) × (value 10 48 (numeral n) ≡ n)
reads n h =
    let w = wide_of n in
    (are_digits_lem 10 48 (omega arith) (width_of n) n, value_digits 10 48 (omega arith) (width_of n) n (rw w.wide (w.top h)))

-- the first digit counts how often 10 ^ k goes into the number
first_digit : (n k : ℕ) → 10 ^ k ≤ n → n < 10 ^ suc k → get_or (decimal (suc k) n) 0 0 ≢ 48
unfolding digits
first_digit n k l t e =
    let some : 0 < 10 ^ k = one-le-pow k 10 (omega arith) in
    let one : 1 ≤ n / 10 ^ k = (le-div_iff_mul-le some).1 (omega arith) in
    let few : n / 10 ^ k < 10 = (div-lt_iff_lt-mul some).1 (rw (pow-succ' 10 k) at t) in
    omega (arith, mod-eq_of_lt few)

no_zero : (n : ℕ) → n < 10 ^ 6 → 10 ≤ n → get_or (numeral n) 0 0 ≢ 48
no_zero n h l = let w = wide_of n in rw w.wide (first_digit n w.behind (w.low l) (w.top h))

one_digit : (n : ℕ) → n < 10 → length (numeral n) ≡ 1
unfolding width_of
one_digit n h = length_numeral n ∙ cond_yes _ _ (lt-ltb n 10 h)

line_of : (label : List ℕ) (n : ℕ) → labelled label n ≡ label ++ (numeral n ++ 10 ∷ [])
unfolding labelled
line_of label n = refl

last_of_line : (p : Port) → slots_text 1 p ≡ slot_text (slot_of p).sent ++ 10 ∷ []
unfolding slots_text separator
last_of_line p = refl

spaced : (n : ℕ) (p : Port) → slots_text (suc (suc n)) p ≡ slot_text (slot_of p).sent ++ 32 ∷ slots_text (suc n) (slot_of p).port
unfolding slots_text separator
spaced n p = ap (λ (c : ℕ). slot_text (slot_of p).sent ++ c ∷ slots_text (suc n) (slot_of p).port) (cond_no _ _ (ne_eqb (suc n) 0 (λ e. absurd (omega arith))))

pub characters : Characters
characters = record {
  hex_digit_lem = λ n h. ⊎_elim (λ d. inl (d.0, d.1)) (λ d. inr (d.0, d.1)) (hex_is n h);
  hex_back = λ n h. ⊎_elim (λ d. (hex_reads _ n (inl d)).0) (λ d. (hex_reads _ n (inr (inr d))).0) (hex_is n h);
  byte = λ b. refl;
  idle = refl;
  digits = reads;
  no_zero = no_zero;
  one_digit = one_digit;
  slots_line_lem = λ n. line_of _ n;
  refused_line = λ x. line_of _ (number_of x);
  dropped_7 = refl;
  form_10 = refl;
  last_of_line = last_of_line;
  spaced = spaced;
  long = length_slots;
}
