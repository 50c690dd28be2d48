-- The laws of digits, once, over the base, the offset and the width: what is written reads back, and what reads was written.
-- Assumes nothing.
use Rattle.std.specs.Prelude.{None, Option, Some}
use Rattle.std.proofs.Common.{◌≡◌, ℕ, zero, suc, ◌+◌, ◌-◌, ◌*◌, ◌/◌, ◌%◌, ◌^◌, ◌<◌, ◌≤◌, true, ◌&&◌, ltb, leb, List, [], ◌∷◌, ◌++◌, length, sym, refl, ap, ◌∙◌, ap₂, le_trans, mod-lt, mod-eq_of_lt, mul_assoc, mul_comm, suc-add, div-add-mod', zero-add, mul-one, div-one, add-one, arith, pow-add, ltb-true, le-ltb, lt-ltb, le-leb, leb-true}
use native.Mathlib.Nat.{pow-succ', pow-zero, div-div-eq-div-mul, one-le-pow, mul-add-div_right, mul-add-mod_self_right, add-sub_cancel_left, pow-le-pow_right, pow-le-pow_left}
use borrow.Author.Tests.{lt-leb}
use lib.Arith.{mod-mul, digits_lt, digits_div, lt-one}
use Rattle.laws.proofs.Tests.{and_left, and_right, told, never}
use Rattle.laws.specs.Every.{every}
use Rattle.laws.proofs.EveryLaws.{every_head, every_tail}
use Rattle.digits.specs.Digits.{digits, value, are_digits, is_digit, only, read_digits, read_field, widest}

module _ (b off : ℕ) (some : 0 < b) where
  pub length_digits : (w n : ℕ) → length (digits b off w n) ≡ w
  unfolding digits
  length_digits zero n = refl
  length_digits (suc w) n = ap suc (length_digits w n)

  digit_at : (x : ℕ) → x < b → is_digit b off (off + x) ≡ true
  digit_at x h = rw (le-leb off (off + x) (omega arith), add-sub_cancel_left off x, lt-ltb x b h)

  pub are_digits_lem : (w n : ℕ) → are_digits b off (digits b off w n) ≡ true
  unfolding digits every
  are_digits_lem zero n = refl
  are_digits_lem (suc w) n = rw (digit_at (n / b ^ w % b) (mod-lt (n / b ^ w) some), are_digits_lem w n)

  -- what n's low w digits say is n below b ^ w
  value_mod : (w n : ℕ) → value b off (digits b off w n) ≡ n % b ^ w
  unfolding digits value
  value_mod zero n = rw pow-zero (sym (lt-one (mod-lt n (omega arith))))
  value_mod (suc w) n =
      rw (length_digits w n, value_mod w n, add-sub_cancel_left off (n / b ^ w % b), pow-succ' b w)
      (sym (mod-mul n some (one-le-pow w b some)))

  pub value_digits : (w n : ℕ) → n < b ^ w → value b off (digits b off w n) ≡ n
  value_digits w n h = value_mod w n ∙ mod-eq_of_lt h

  -- what stands above b ^ w does not show in the low w digits
  digits_above : (w k n : ℕ) → digits b off w (k * b ^ w + n) ≡ digits b off w n
  unfolding digits
  digits_above zero k n = refl
  digits_above (suc w) k n =
      let e : k * b ^ suc w ≡ (k * b) * b ^ w = rw (pow-succ' b w) (sym (mul_assoc k b (b ^ w))) in
      rw e
      (rw (mul-add-div_right (one-le-pow w b some) (k * b) n, mul-add-mod_self_right k b (n / b ^ w), digits_above w (k * b) n))

  -- so they are those of what is left below b ^ w
  pub digits_below : (w n : ℕ) → digits b off w (n % b ^ w) ≡ digits b off w n
  digits_below w n = sym (digits_above w (n / b ^ w) (n % b ^ w)) ∙ ap (digits b off w) (div-add-mod' n (b ^ w))

  -- the digits above the w lowest, and those
  pub digits_split : (k w n : ℕ) → digits b off (k + w) n ≡ digits b off k (n / b ^ w) ++ digits b off w n
  unfolding digits
  digits_split zero w n = rw (zero-add w)
  digits_split (suc k) w n = rw (suc-add k w)
      (ap₂ ◌∷◌ (rw (pow-add b k w, mul_comm (b ^ k) (b ^ w), div-div-eq-div-mul n (b ^ w) (b ^ k))) (digits_split k w n))

  pub digits_one : (n : ℕ) → digits b off 1 n ≡ (off + n % b) ∷ []
  unfolding digits
  digits_one n = rw (pow-zero, div-one)

  -- the lowest digit, behind those of the rest
  pub digits_last : (w n : ℕ) → digits b off (suc w) n ≡ digits b off w (n / b) ++ ((off + n % b) ∷ [])
  digits_last w n =
      let once : b ^ 1 ≡ b = pow-succ' b 0 ∙ rw pow-zero (mul-one b) in
      rw (← add-one w) (digits_split w 1 n ∙ rw (once, digits_one n))

  digit_low : (d : ℕ) → is_digit b off d ≡ true → d - off < b
  digit_low d h = ltb-true (d - off) b (and_right (leb off d) (ltb (d - off) b) h)

  digit_back : (d : ℕ) → is_digit b off d ≡ true → off + (d - off) ≡ d
  digit_back d h = omega (arith, leb-true off d (and_left (leb off d) (ltb (d - off) b) h))

  pub value_lt : (ds : List ℕ) → are_digits b off ds ≡ true → value b off ds < b ^ length ds
  unfolding value
  value_lt [] h = rw pow-zero (omega arith)
  value_lt (d ∷ ds) h =
      rw (pow-succ' b (length ds)) (digits_lt (digit_low d (every_head _ d ds h)) (value_lt ds (every_tail _ d ds h)))

  pub digits_value : (ds : List ℕ) → are_digits b off ds ≡ true → digits b off (length ds) (value b off ds) ≡ ds
  unfolding value digits
  digits_value [] h = refl
  digits_value (d ∷ ds) h =
      let q = d - off in
      let v = value b off ds in
      let low = digit_low d (every_head _ d ds h) in
      ap₂ ◌∷◌
      (ap (λ (x : ℕ). off + x) (ap (λ (x : ℕ). x % b) (digits_div q (value_lt ds (every_tail _ d ds h))) ∙ mod-eq_of_lt low) ∙ digit_back d (every_head _ d ds h))
      (digits_above (length ds) q v ∙ digits_value ds (every_tail _ d ds h))

  -- what is written reads back
  pub read_digits_lem : (w n top : ℕ) → w ≤ widest → n ≤ top → top < b ^ w → read_field b off top (digits b off w n) ≡ Some n
  unfolding read_field read_digits
  read_digits_lem w n top k h t =
      rw (length_digits w n, le-leb w widest k, are_digits_lem w n, value_digits w n (omega arith), le-leb n top h)

  -- what reads was written
  pub digits_read : (s : List ℕ) (n top : ℕ) → read_field b off top s ≡ Some n → (n ≤ top) × (s ≡ digits b off (length s) n)
  unfolding read_field read_digits
  digits_read s n top e =
      told (leb (length s) widest)
      (λ short.
      told (are_digits b off s && leb (value b off s) top)
      (λ good.
      let v : value b off s ≡ n = (let z : Some (value b off s) ≡ Some n = rw (short, good) at e in cc) in
      let h : value b off s ≤ top = leb-true _ _ (and_right (are_digits b off s) (leb (value b off s) top) good) in (
        omega arith,
        sym (digits_value s (and_left (are_digits b off s) (leb (value b off s) top) good)) ∙ ap (digits b off (length s)) v,
      ))
      (λ wrong. let z : None ≡ Some n = rw (short, wrong) at e in never (cc)))
      (λ long. let z : None ≡ Some n = rw long at e in never (cc))

pub regroup : (v b q p r : ℕ) → v * (b * p) + (q * p + r) ≡ (v * b + q) * p + r
regroup v b q p r = omega arith

-- no field overflows 64 bits
pub narrow : (b w : ℕ) → 0 < b → b ≤ 64 → w ≤ widest → b ^ w ≤ 2 ^ 64
narrow b w some h k = le_trans (pow-le-pow_left h w) (le_trans (pow-le-pow_right {n = 64} (omega arith) k) (omega arith))

module _ (b off top : ℕ) where
  -- reading on from v: what a loop that reads from the front has still to find
  abbrev pub onward : ℕ → List ℕ → Option ℕ
  onward v ds = only (are_digits b off ds && leb (v * b ^ length ds + value b off ds) top) (v * b ^ length ds + value b off ds)

  pub onward_start : (ds : List ℕ) → read_digits b off top ds ≡ onward 0 ds
  unfolding read_digits
  onward_start ds =
      let e : value b off ds ≡ 0 * b ^ length ds + value b off ds = omega arith in
      ap (λ (x : ℕ). only (are_digits b off ds && leb x top) x) e

  pub onward_more : (v d : ℕ) (ds : List ℕ) → off ≤ d → d - off < b → onward v (d ∷ ds) ≡ onward (v * b + (d - off)) ds
  unfolding every value
  onward_more v d ds h k =
      let e : v * b ^ suc (length ds) + ((d - off) * b ^ length ds + value b off ds) ≡ (v * b + (d - off)) * b ^ length ds + value b off ds
      = rw (pow-succ' b (length ds)) (regroup v b (d - off) (b ^ length ds) (value b off ds)) in
      rw (le-leb off d h, lt-ltb (d - off) b k) (ap (λ (x : ℕ). only (are_digits b off ds && leb x top) x) e)

  pub onward_low : (v d : ℕ) (ds : List ℕ) → d < off → onward v (d ∷ ds) ≡ None
  unfolding every
  onward_low v d ds h = rw (lt-leb off d h)

  pub onward_high : (v d : ℕ) (ds : List ℕ) → off ≤ d → b ≤ d - off → onward v (d ∷ ds) ≡ None
  unfolding every
  onward_high v d ds h k = rw (le-leb off d h, le-ltb (d - off) b k)

  pub onward_end : (v : ℕ) → onward v [] ≡ only (leb v top) v
  unfolding every value
  onward_end v =
      let e : v * b ^ 0 + 0 ≡ v = rw pow-zero (omega arith) in
      rw e
