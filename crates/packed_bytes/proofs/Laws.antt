-- What the low bits of groups say, against what the packed form's reader finds in them. Assumes nothing.
use Prim.Native.Nat.{ℕ, zero, suc, ◌+◌, ◌-◌, ◌*◌, ◌/◌, ◌%◌, ◌^◌, ◌≤◌, ◌<◌}
use mathlib.Core.Bool.{Bool, true, false, ◌&&◌, not, cond}
use mathlib.Core.List.{List, [], ◌∷◌}
use mathlib.Core.Path.{◌≡◌, refl, sym, ◌∙◌}
use native.Mathlib.Nat.{pow-succ', pow-zero}
use native.Mathlib.Omega.{arith}
use borrow.Author.Tests.{eq-eqb, ne_eqb, leb-true, ltb-true, le-leb, lt-ltb}
use lib.Dec.{leb, ltb, eqb}
use lib.ListN.{length, get_or, drop, drop_of_length-le}
use lib.Seq.{drop-cons}
use Rattle.laws.proofs.EveryLaws.{every_head, every_tail}
use Rattle.laws.proofs.Tests.{told, never, and_left, and_right, cond_yes}
use Rattle.digits.proofs.Laws.{regroup}
use Rattle.digits.specs.Digits.{value, is_digit, are_digits, only, read_field, read_digits, read_groups, widest}
use Rattle.sign.specs.Sign.{below0, signed_of}
use Rattle.pupil.specs.Pupil.{sign_byte}
use Rattle.packed_bytes.specs.Bytes.{sixes, packed_number, pupil_in}

-- ---- a group

module _ (d : ℕ) where
  under : d / 64 ≡ 1 → is_digit 64 64 d ≡ true
  under e = rw (le-leb 64 d (omega arith), lt-ltb (d - 64) 64 (omega arith))

  least : is_digit 64 64 d ≡ true → 64 ≤ d
  least h = leb-true _ _ (and_left (leb 64 d) (ltb (d - 64) 64) h)

  most : is_digit 64 64 d ≡ true → d - 64 < 64
  most h = ltb-true _ _ (and_right (leb 64 d) (ltb (d - 64) 64) h)

  -- 64 to 127 are the bytes under bits 01
  pub group_is : eqb (d / 64) 1 ≡ is_digit 64 64 d
  group_is =
      told (is_digit 64 64 d)
      (λ y. eq-eqb (d / 64) 1 (omega (arith, least y, most y)) ∙ sym y)
      (λ n. ne_eqb (d / 64) 1 (λ e. never (cc (sym n ∙ under e))) ∙ sym n)

-- ---- groups one after the other

-- what a loop that reads from the front has still to find
abbrev pub onward : ℕ → List ℕ → ℕ
onward n s = n * 64 ^ length s + sixes s

pub onward_more : (n i : ℕ) (s : List ℕ) → i < length s → onward n (drop i s) ≡ onward (n * 64 + get_or s i 0 % 64) (drop (suc i) s)
unfolding sixes
onward_more n i s h =
    rw (drop-cons s i 0 h, pow-succ' 64 (length (drop (suc i) s)))
    (regroup n 64 (get_or s i 0 % 64) (64 ^ length (drop (suc i) s)) (sixes (drop (suc i) s)))

pub onward_end : (n i : ℕ) (s : List ℕ) → length s ≤ i → onward n (drop i s) ≡ n
unfolding sixes
onward_end n i s h = rw (drop_of_length-le s h, pow-zero) (omega arith)

-- ---- what the reader finds

-- of groups, the low bits are what they say
sixes_value : (s : List ℕ) → are_digits 64 64 s ≡ true → sixes s ≡ value 64 64 s
unfolding sixes value
sixes_value [] h = refl
sixes_value (d ∷ s) h =
    let g = every_head _ d s h in
    let e : d % 64 ≡ d - 64 = omega (arith, least d g, most d g) in
    rw (e, sixes_value s (every_tail _ d s h))

-- of five at most, the number is what the low bits say
pub few_groups : (s : List ℕ) → length s ≤ 5 → packed_number s ≡ sixes s
unfolding packed_number
few_groups s few = cond_yes _ _ (le-leb _ _ few)

-- so a reader of groups tests them, and the number
pub groups_only : (top : ℕ) (s : List ℕ) → length s ≤ widest → read_groups top s ≡ only (are_digits 64 64 s && leb (sixes s) top) (sixes s)
unfolding read_field read_digits
groups_only top s short = told (are_digits 64 64 s) (λ y. rw (le-leb _ _ short, sixes_value s y)) (λ n. rw (le-leb _ _ short, n))

-- ---- the pupil's sign

-- zero has no minus
minus_is : (below : Bool) (n : ℕ) → below0 (signed_of below n) ≡ (below && not (eqb n 0))
minus_is false n = refl
minus_is true zero = refl
minus_is true (suc n) = rw (ne_eqb (suc n) 0 (λ e. absurd (omega arith)))

pub sign_is : (code : ℕ) {r : ℕ} → r ≡ cond (eqb (code / 2048) 1 && not (eqb (code % 2048) 0)) 45 43 → r ≡ sign_byte (pupil_in code)
sign_is code e = e ∙ rw (← minus_is (eqb (code / 2048) 1) (code % 2048))
