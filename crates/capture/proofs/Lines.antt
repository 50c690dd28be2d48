-- What a line is by the event that is read from it: each event's line has the event's form. Assumes nothing.
use Prim.Native.Nat.{ℕ, zero, suc, ◌+◌, ◌-◌, ◌≤◌, ◌<◌}
use mathlib.Core.Bool.{true, ◌&&◌}
use mathlib.Core.List.{List, [], ◌∷◌, ◌++◌}
use mathlib.Core.Logic.{◌≢◌}
use mathlib.Core.Path.{◌≡◌, refl, sym, ap, subst, ◌∙◌}
use native.Mathlib.Nat.{add-zero}
use native.Mathlib.Omega.{arith}
use borrow.Author.Tests.{eqb-true, eqb-false}
use lib.Dec.{eqb}
use lib.IntN.{ℤ}
use lib.ListN.{length, get_or}
use Rattle.std.specs.Prelude.{None, Option, Some}
use Rattle.laws.specs.Within.{within}
use Rattle.laws.proofs.ListLaws.{two_is}
use Rattle.laws.proofs.Range.{at_least, at_most}
use Rattle.laws.proofs.Tests.{told, never, by, and_left, and_right}
use Rattle.capture.specs.Words.{space, behind, word, spaces, sole}
use Rattle.capture.specs.Numbers.{hex_value, digits_of, whole_of, is_value, whole_value, is_whole, word_value}
use Rattle.capture.specs.Capture.{received_of, slots_by, is_letter, number_words, is_measurement, figures_at, measurement_at, event_of, received_by}
use Rattle.capture.specs.Promises.{SaysByte, SaysSlots, Spaced, none, next, figures_from, SaysMeasurement}
use Rattle.capture.specs.declared.Event.{Event}
use Rattle.capture.specs.declared.Event.TheVariants.{Received, Slots, Measured, Other}
use Rattle.capture.proofs.Words.{spaces_behind, word_parts, word_last, sole_is, leads}
use Rattle.capture.proofs.Texts.{number_is, whole_is, hex_is, letter_is, letter_low}

-- the form of an event's line
abbrev pub Says : List ℕ → Event → Type 0
Says s (Received b) = SaysByte s b
Says s (Slots n) = SaysSlots s n
Says s (Measured m) = SaysMeasurement s m
Says s Other = Unit {0}

-- ---- R and S

-- two words, of which the first is one byte
module _ (x : ℕ) (s : List ℕ) (some : 0 < x) where
  pair_is : (eqb (sole (word 0 s)) x && eqb (spaces s) 1) ≡ true → s ≡ x ∷ space ∷ word 1 s
  pair_is h =
      let k = eqb-true (sole (word 0 s)) x (and_left (eqb (sole (word 0 s)) x) (eqb (spaces s) 1) h) in
      let n = eqb-true (spaces s) 1 (and_right (eqb (sole (word 0 s)) x) (eqb (spaces s) 1) h) in
      leads s (omega arith) (omega arith) ∙ rw (k, word_last 1 s (spaces_behind 1 0 s n))

-- two digits, or what is none of them
digits_say : (s w : List ℕ) → s ≡ 82 ∷ space ∷ w → length w ≡ 2 → (a b : Option ℕ) → hex_value (get_or w 0 0) ≡ a → hex_value (get_or w 1 0) ≡ b →
    Says s (received_by a b)
unfolding received_by
digits_say s w e two (Some x) (Some y) p q = record {
  high = get_or w 0 0;
  low = get_or w 1 0;
  x = x;
  y = y;
  is = e ∙ ap (λ (v : List ℕ). 82 ∷ space ∷ v) (two_is w two);
  first = hex_is _ x p;
  second = hex_is _ y q;
  says = omega arith;
}
digits_say s w e two (Some x) None p q = tt
digits_say s w e two None b p q = tt

received_says : (s w : List ℕ) → s ≡ 82 ∷ space ∷ w → Says s (received_of w)
unfolding received_of
received_says s w e =
    by (Says s) (eqb (length w) 2) (received_by (hex_value (get_or w 0 0)) (hex_value (get_or w 1 0))) Other
    (λ t. digits_say s w e (eqb-true (length w) 2 t) (hex_value (get_or w 0 0)) (hex_value (get_or w 1 0)) refl refl)
    (λ t. tt)

slots_says : (s w : List ℕ) → s ≡ 83 ∷ space ∷ w → (f : Option ℕ) → digits_of w ≡ f → Says s (slots_by f)
unfolding slots_by
slots_says s w e None r = tt
slots_says s w e (Some n) r =
    by (Says s) (within 1 999 n) (Slots n) Other
    (λ t. record { text = w; is = e; number = number_is w n r; low = at_least 1 999 n t; high = at_most 1 999 n t })
    (λ t. tt)

-- ---- M

-- the numbers of n words from the word i on
abbrev pub numbers_at : ℕ → ℕ → List ℕ → List ℤ
numbers_at zero i s = []
numbers_at (suc n) i s = word_value (word i s) ∷ numbers_at n (suc i) s

whole_value_is : (x : Option ℤ) → is_value x ≡ true → x ≡ Some (whole_value x)
whole_value_is (Some n) h = refl
whole_value_is None h = never (cc)

pub numbers_each : (s : List ℕ) (n i : ℕ) → number_words n s ≡ true → i < n → is_whole (word (suc i) s) ≡ true
unfolding number_words
numbers_each s zero i h k = absurd (omega arith)
numbers_each s (suc n) i h k =
    told (eqb i n)
    (λ t. ap (λ (j : ℕ). is_whole (word (suc j) s)) (eqb-true i n t) ∙ and_right (number_words n s) (is_whole (word (suc n) s)) h)
    (λ t. numbers_each s n i (and_left (number_words n s) (is_whole (word (suc n) s)) h) (omega (arith, eqb-false i n t)))

spaced_at : (n i : ℕ) (s : List ℕ) → i + n ≤ spaces s → ((j : ℕ) → i ≤ j → j < i + n → is_whole (word j s) ≡ true) → Spaced (behind i s) (numbers_at n i s) (behind (i + n) s)
spaced_at zero i s h k = rw add-zero none
spaced_at (suc n) i s h k =
    let left = spaces_behind i (spaces s - i) s (omega arith) in
    let e : i + suc n ≡ suc i + n = omega arith in
    rw (word_parts i s (omega arith), e)
    (next (whole_is (word i s) _ (whole_value_is (whole_of (word i s)) (k i (omega arith) (omega arith))))
    (spaced_at n (suc i) s (omega arith) (λ j l m. k j (omega arith) (omega arith))))

-- what `is_measurement` tests
record Tested (s : List ℕ) : Type 0 where
  count : spaces s ≡ 13
  numbers : number_words 11 s ≡ true
  letter : is_letter (sole (word 12 s)) ≡ true
  last : is_whole (word 13 s) ≡ true

tested : (s : List ℕ) → is_measurement s ≡ true → Tested s
unfolding is_measurement
tested s h =
    let u = is_letter (sole (word 12 s)) in
    let l = is_whole (word 13 s) in
    let h1 = and_right (eqb (spaces s) 13) (number_words 11 s && (u && l)) h in
    let h2 = and_right (number_words 11 s) (u && l) h1 in
    record {
      count = eqb-true (spaces s) 13 (and_left (eqb (spaces s) 13) (number_words 11 s && (u && l)) h);
      numbers = and_left (number_words 11 s) (u && l) h1;
      letter = and_left u l h2;
      last = and_right u l h2;
    }

-- the letter and the last number
ends_in : (s : List ℕ) → Tested s → behind 12 s ≡ sole (word 12 s) ∷ space ∷ word 13 s
ends_in s t =
    let l = letter_low (letter_is (sole (word 12 s)) t.letter) in
    word_parts 12 s (omega (arith, spaces_behind 12 1 s t.count))
    ∙ ap (λ (w : List ℕ). w ++ space ∷ behind 13 s) (sole_is (word 12 s) (omega arith))
    ∙ ap (λ (w : List ℕ). sole (word 12 s) ∷ space ∷ w) (sym (word_last 13 s (spaces_behind 13 0 s t.count)))

measurement_says : (s : List ℕ) → sole (word 0 s) ≡ 77 → Tested s → SaysMeasurement s (measurement_at s)
unfolding measurement_at figures_at figures_from
measurement_says s kind t = record {
  numbers = numbers_at 11 1 s;
  unit = sole (word 12 s);
  text = word 13 s;
  temperature = word_value (word 13 s);
  front = behind 1 s;
  is = leads s (omega (arith, t.count)) (omega arith) ∙ ap (λ (x : ℕ). x ∷ space ∷ behind 1 s) kind;
  eleven = refl;
  spaced = subst (λ (x : List ℕ). Spaced (behind 1 s) (numbers_at 11 1 s) x) (ends_in s t) (spaced_at 11 1 s (omega (arith, t.count)) each);
  letter = letter_is (sole (word 12 s)) t.letter;
  last = whole_is (word 13 s) _ (whole_value_is (whole_of (word 13 s)) t.last);
  says = refl;
} where
  each : (j : ℕ) → 1 ≤ j → j < 12 → is_whole (word j s) ≡ true
  each zero h k = absurd (omega arith)
  each (suc j) h k = numbers_each s 11 j t.numbers (omega arith)

-- ---- every line

pub says : (s : List ℕ) → Says s (event_of s)
unfolding event_of
says s =
    let kind = sole (word 0 s) in
    let pair = eqb (spaces s) 1 in
    by (Says s) (eqb kind 82 && pair) _ _ (λ t. received_says s (word 1 s) (pair_is 82 s (omega arith) t))
    (λ _.
    by (Says s) (eqb kind 83 && pair) _ _ (λ t. slots_says s (word 1 s) (pair_is 83 s (omega arith) t) (digits_of (word 1 s)) refl)
    (λ _.
    by (Says s) (eqb kind 77 && is_measurement s) _ _
    (λ t. measurement_says s (eqb-true kind 77 (and_left (eqb kind 77) (is_measurement s) t)) (tested s (and_right (eqb kind 77) (is_measurement s) t)))
    (λ _. tt)))

-- ---- the first byte

-- an event's line begins with R, S or M
first_by : (b : ℕ) (s : List ℕ) → b ≢ 82 → b ≢ 83 → b ≢ 77 → (e : Event) → Says (b ∷ s) e → e ≡ Other
first_by b s r n m (Received x) h = absurd (r (cc))
first_by b s r n m (Slots x) h = absurd (n (cc))
first_by b s r n m (Measured x) h = absurd (m (cc))
first_by b s r n m Other h = refl

pub first_other : (b : ℕ) (s : List ℕ) → b ≢ 82 → b ≢ 83 → b ≢ 77 → event_of (b ∷ s) ≡ Other
first_other b s r n m = first_by b s r n m (event_of (b ∷ s)) (says (b ∷ s))

pub none_other : event_of [] ≡ Other
none_other = none_by (event_of []) (says [])
  where
    none_by : (e : Event) → Says [] e → e ≡ Other
    none_by (Received x) h = let l = ap length h.is in absurd (omega arith)
    none_by (Slots x) h = let l = ap length h.is in absurd (omega arith)
    none_by (Measured x) h = let l = ap length h.is in absurd (omega arith)
    none_by Other h = refl
