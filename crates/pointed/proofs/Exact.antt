-- A number with a point is an exact field: whole part and tenth are, and each number is made of them in one way. And what the code's reader says
-- is what the codec parses. Assumes nothing.
use Prim.Native.Nat.{ℕ, suc, ◌+◌, ◌-◌, ◌*◌, ◌/◌, ◌%◌, ◌^◌, ◌≤◌, ◌<◌}
use mathlib.Core.List.{List, [], ◌∷◌}
use mathlib.Core.Bool.{Bool, true, false}
use mathlib.Core.Logic.{inl}
use mathlib.Core.Path.{◌≡◌, refl, sym, ap, ap₂, ◌∙◌}
use native.Mathlib.Omega.{arith}
use borrow.Author.Tests.{leb-true, le-leb, le-ltb}
use lib.Dec.{leb}
use lib.ListN.{length, drop, length-append}
use Rattle.std.specs.Prelude.{None, Option, Some}
use Rattle.laws.specs.Member.{◌∈◌}
use Rattle.laws.proofs.MemberLaws.{the_only}
use Rattle.digits.specs.Digits.{only, decimal, widest}
use Rattle.digits.proofs.Laws.{length_digits}
use Rattle.codec.specs.Codec.{spellings, passed, failing, both, chained, field_says, number, tagged, ◌⊗◌}
use Rattle.codec.proofs.Exact.{Exact, Codes, holds, fine, first_zero, zero_first, passed_is}
use Rattle.codec.proofs.Blames.{Alone, number_alone, tagged_alone, ⊗_alone, through_alone}
use Rattle.codec.proofs.Fields.{tagged_number}
use Rattle.pointed.specs.Pointed.{point, pointed_text, pointed, with_tenths, read_pointed}

pub pointed_long : (w n : ℕ) → length (pointed_text w n) ≡ w + 2
pointed_long w n =
    length-append (decimal w (n / 10)) (point ∷ decimal 1 (n % 10))
    ∙ ap₂ (λ (x y : ℕ). x + suc y) (length_digits 10 48 (omega arith) w (n / 10)) (length_digits 10 48 (omega arith) 1 (n % 10))

module _ (i w top : ℕ) where
  pub pointed_width : (pointed i w top).width ≡ w + 2
  unfolding pointed
  pointed_width = refl

  pub pointed_print : (n : ℕ) → (pointed i w top).print n ≡ pointed_text w n
  unfolding pointed
  pointed_print n = refl

  -- it is spelt in one way
  pub pointed_spelt : (n : ℕ) {s : List ℕ} → s ∈ spellings (pointed i w top) n → s ≡ pointed_text w n
  unfolding pointed
  pointed_spelt n k = the_only k

  pub pointed_lowest : (n : ℕ) → (pointed i w top).lowest n ≡ failing (leb n top) i
  unfolding pointed
  pointed_lowest n = refl

-- a number is made of its whole part and its tenth, and of no other two
codes : (i w top : ℕ) →
    Codes (number (suc i) 10 48 w (top / 10) ⊗ tagged point (suc i) (number (suc i) 10 48 1 9)) (λ n. leb n top) (λ n. (n / 10, n % 10))
    (λ n. []) (λ p. passed (leb (p.0 * 10 + p.1) top) (suc i) (p.0 * 10 + p.1))
unfolding passed
codes i w top = record {
  sent = λ n p h m.
      let k = leb-true n top h in
      let e : n / 10 * 10 + n % 10 ≡ n = omega arith in
      rw (the_only m) (zero_first _ _ (fine _ _ (le-leb (n / 10) (top / 10) (omega arith))) (fine _ _ (le-leb (n % 10) 9 (omega arith))), rw (e, h));
  taken = λ p n h e.
      let z = first_zero (failing (leb p.0 (top / 10)) (suc i)) (failing (leb p.1 9) (suc i)) h in
      let k = leb-true p.1 9 (holds _ i z.1) in
      let q = passed_is (leb (p.0 * 10 + p.1) top) (suc i) (p.0 * 10 + p.1) n e in
      let f : p.0 * 10 + p.1 ≡ n = q.1 in
      (ap (λ (m : ℕ). leb m top) (sym f) ∙ q.0, inl (ap₂ (λ (a b : ℕ). (a, b)) (omega arith) (omega arith)));
}

-- one field, whatever of it is wrong
pub pointed_alone : (i w top : ℕ) → w ≤ widest → top / 10 < 10 ^ w → Alone (suc i) (pointed (suc i) w top)
unfolding pointed
pointed_alone i w top short low =
    through_alone i (λ n. leb n top) _ _ _ _ _ (codes i w top) 0 (le-leb 0 top (omega arith))
    (⊗_alone (suc i) _ _ (number_alone i 10 48 w (top / 10) (omega arith) short low)
    (tagged_alone point (suc i) _ (number_alone i 10 48 1 9 (omega arith) (omega arith) (omega arith))))

pub pointed_exact : (i w top : ℕ) → w ≤ widest → top / 10 < 10 ^ w → Exact (pointed (suc i) w top)
pointed_exact i w top short low = (pointed_alone i w top short low).exact

-- ---- what the code's reader says

says_only : (i n : ℕ) (t : Bool) → field_says i (only t n) ≡ passed t i n
unfolding field_says passed
says_only i n true = refl
says_only i n false = refl

says_tenths : (i top : ℕ) (f g : Option ℕ) →
    field_says i (with_tenths top f g) ≡ chained (λ (p : ℕ × ℕ). passed (leb (p.0 * 10 + p.1) top) i (p.0 * 10 + p.1)) (both (field_says i f) (field_says i g))
unfolding with_tenths field_says chained both
says_tenths i top (Some a) (Some b) = says_only i (a * 10 + b) (leb (a * 10 + b) top)
says_tenths i top (Some a) None = refl
says_tenths i top None g = refl

pub pointed_read : (i w top : ℕ) (s : List ℕ) → length s ≡ w + 2 → field_says i (read_pointed top s) ≡ (pointed i w top).parse s
unfolding pointed read_pointed
pointed_read i w top s l =
    let e : length s - 2 ≡ w = omega arith in
    rw (le-ltb (length s) 2 (omega arith), e, says_tenths, tagged_number point i 10 48 1 9 (drop w s))
