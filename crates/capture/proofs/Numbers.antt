-- Numbers by their text: what a word's first byte and its length decide. Assumes nothing.
use Prim.Native.Nat.{ℕ, zero, suc, ◌≤◌, ◌<◌}
use mathlib.Core.Bool.{true, false, false≢true, ◌&&◌}
use mathlib.Core.List.{List, [], ◌∷◌}
use mathlib.Core.Logic.{◌≢◌}
use mathlib.Core.Path.{◌≡◌, refl, sym, ap, ◌∙◌}
use native.Mathlib.Numerals.{add-one}
use native.Mathlib.Omega.{arith}
use borrow.Author.Tests.{ne_eqb}
use lib.IntN.{ℤ, pos, negsuc}
use lib.ListN.{length, get_or, take}
use Rattle.std.specs.List.{list_all, range_with_len}
use Rattle.std.specs.Prelude.{None, Some}
use Rattle.std.proofs.lemmas.List.Folds.{list_all_more}
use Rattle.std.proofs.lemmas.List.FromFn.{get_or-range_with_len}
use Rattle.laws.proofs.Tests.{never, and_both}
use Rattle.sign.specs.Sign.{size, below0}
use Rattle.digits.specs.Digits.{read_decimal}
use Rattle.digits.proofs.Laws.{digits_read}
use Rattle.capture.specs.Numbers.{nine_digits, digits_of, whole_by, whole_of, is_whole, beyond, field_for}
use Rattle.capture.specs.Words.{word}
use Rattle.capture.specs.Capture.{number_words}

-- ---- digits

pub number_none : (w : List ℕ) → length w ≡ 0 → None ≡ digits_of w
unfolding digits_of
number_none [] e = refl
number_none (d ∷ w) e = absurd (omega arith)

pub number_some : (w : List ℕ) → (length w ≡ 0 → ⊥) → read_decimal nine_digits w ≡ digits_of w
unfolding digits_of
number_some [] e = absurd (e refl)
number_some (d ∷ w) e = refl

pub number_low : (w : List ℕ) (n : ℕ) → digits_of w ≡ Some n → n ≤ nine_digits
unfolding digits_of
number_low [] n e = never (cc)
number_low (d ∷ w) n e = (digits_read 10 48 (omega arith) (d ∷ w) n nine_digits e).0

-- ---- a minus before them or none

pub whole_plain : (w : List ℕ) → ((s : List ℕ) → w ≢ 45 ∷ s) → whole_by false (digits_of w) ≡ whole_of w
unfolding whole_of digits_of
whole_plain [] h = refl
whole_plain (b ∷ s) h = rw (ne_eqb b 45 (λ e. h s (ap (λ (x : ℕ). x ∷ s) e)))

-- ---- what a field is handed

pub field_below : (z : ℤ) → below0 z ≡ true → beyond ≡ field_for z
field_below (pos n) e = absurd (false≢true e)
field_below (negsuc n) e = refl

pub field_size : (z : ℤ) → below0 z ≡ false → size z ≡ field_for z
field_size (pos n) e = refl
field_size (negsuc n) e = absurd (false≢true (sym e))

-- ---- the words of M

pub numbers_more : (s : List ℕ) (n : ℕ) → number_words n s ≡ true → is_whole (word (suc n) s) ≡ true → number_words (suc n) s ≡ true
unfolding number_words
numbers_more s n h e = and_both h e

-- each of the first words
pub numbers_listed : (s : List ℕ) (n : ℕ) → n ≤ 11 → number_words n s ≡ list_all (λ k. is_whole (word k s)) (take n (range_with_len 1 11))
unfolding number_words
numbers_listed s zero h = refl
numbers_listed s (suc n) h =
    let low : n < length (range_with_len 1 11) = omega arith in
    let at : get_or (range_with_len 1 11) n 0 ≡ suc n = get_or-range_with_len 1 11 n 0 (omega arith) ∙ omega arith in
    let more = list_all_more (λ k. is_whole (word k s)) (range_with_len 1 11) n 0 low in
    ap (λ b. b && is_whole (word (suc n) s)) (numbers_listed s n (omega arith))
    ∙ ap (λ k. list_all (λ j. is_whole (word j s)) (take n (range_with_len 1 11)) && is_whole (word k s)) (sym at)
    ∙ sym more
    ∙ ap (λ k. list_all (λ j. is_whole (word j s)) (take k (range_with_len 1 11))) (add-one n)
