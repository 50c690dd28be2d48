-- Each event's form is read as that event. Assumes nothing.
use Prim.Native.Nat.{ℕ, zero, suc, ◌+◌, ◌*◌, ◌<◌}
use mathlib.Core.Bool.{true}
use mathlib.Core.List.{List, [], ◌∷◌, ◌++◌}
use mathlib.Core.Path.{◌≡◌, refl, sym, ap, ap₂, ◌∙◌}
use native.Mathlib.Omega.{arith}
use borrow.Author.Tests.{eq-eqb, ne_eqb}
use lib.Dec.{eqb}
use lib.IntN.{ℤ}
use lib.ListN.{length}
use Rattle.laws.proofs.Range.{inside}
use Rattle.laws.proofs.Tests.{cond_yes, cond_no, and_both, and_fails}
use Rattle.units.specs.declared.Measurement.{Measurement}
use Rattle.capture.specs.Words.{space, behind, word, spaces, sole}
use Rattle.capture.specs.Numbers.{is_value, whole_value, is_whole, word_value}
use Rattle.capture.specs.Capture.{received_by, received_of, slots_by, slots_of, is_letter, number_words, is_measurement, figures_at, measurement_at, event_of}
use Rattle.capture.specs.Promises.{SaysByte, SaysSlots, SignedNumber, IsLetter, Spaced, none, next, figures_from, SaysMeasurement}
use Rattle.capture.specs.declared.Event.TheVariants.{Received, Slots, Measured}
use Rattle.capture.proofs.Words.{joined_spaces, joined_word, joined_behind, behind_suc, behind_next, word_next, word_behind, word_alone, led_spaces, led_byte, led_word}
use Rattle.capture.proofs.Numbers.{numbers_more}
use Rattle.capture.proofs.Texts.{number_reads, digits_free, whole_reads, whole_free, hex_reads, letter_low, letter_reads}
use Rattle.capture.proofs.Lines.{numbers_at}

-- a byte that is no space
byte_free : (x : ℕ) → (x ≡ space → ⊥) → spaces (x ∷ []) ≡ 0
unfolding spaces
byte_free x h = rw (ne_eqb x space h)

-- ---- R and S

module _ (t : List ℕ) (free : spaces t ≡ 0) where
  one_space : (x : ℕ) → spaces (x ∷ []) ≡ 0 → eqb (spaces (x ∷ space ∷ t)) 1 ≡ true
  one_space x h = eq-eqb _ _ (led_spaces x t h ∙ ap suc free)

  second_word : (x : ℕ) → spaces (x ∷ []) ≡ 0 → word 1 (x ∷ space ∷ t) ≡ t
  second_word x h = led_word x t h 0 ∙ word_alone t free

  received_reads : event_of (82 ∷ space ∷ t) ≡ received_of t
  unfolding event_of
  received_reads =
      let h = byte_free 82 (λ e. omega arith) in
      cond_yes _ _ (and_both (eq-eqb _ _ (led_byte 82 t h)) (one_space 82 h)) ∙ ap received_of (second_word 82 h)

  slots_reads : event_of (83 ∷ space ∷ t) ≡ slots_of t
  unfolding event_of
  slots_reads =
      let h = byte_free 83 (λ e. omega arith) in
      let k = led_byte 83 t h in
      cond_no _ _ (sym (and_fails _ (ne_eqb (sole (word 0 (83 ∷ space ∷ t))) 82 (λ e. omega arith))))
      ∙ cond_yes _ _ (and_both (eq-eqb _ _ k) (one_space 83 h))
      ∙ ap slots_of (second_word 83 h)

pub byte_reads : (s : List ℕ) (b : ℕ) → SaysByte s b → event_of s ≡ Received b
unfolding received_of received_by spaces
byte_reads s b r =
    let p = hex_reads r.high r.x r.first in
    let q = hex_reads r.low r.y r.second in
    let h1 = p.1 in
    let h2 = q.1 in
    let free : spaces (r.high ∷ r.low ∷ []) ≡ 0 = rw (ne_eqb r.high space (λ e. omega arith), ne_eqb r.low space (λ e. omega arith)) in
    let n : r.x * 16 + r.y ≡ b = omega (arith, r.says) in
    ap event_of r.is
    ∙ received_reads (r.high ∷ r.low ∷ []) free
    ∙ rw (p.0, q.0) (ap Received n)

pub slot_reads : (s : List ℕ) (n : ℕ) → SaysSlots s n → event_of s ≡ Slots n
unfolding slots_by
slot_reads s n r =
    ap event_of r.is
    ∙ slots_reads r.text (digits_free r.text r.number.every)
    ∙ ap slots_by (number_reads r.text n r.number)
    ∙ cond_yes _ _ (inside 1 999 n r.low r.high)

-- ---- M

whole_true : {w : List ℕ} {z : ℤ} → SignedNumber w z → is_whole w ≡ true
whole_true p = ap is_value (whole_reads p)

whole_value_lem : {w : List ℕ} {z : ℤ} → SignedNumber w z → word_value w ≡ z
whole_value_lem p = ap whole_value (whole_reads p)

numbers_next : (n i : ℕ) (s : List ℕ) → numbers_at n (suc i) s ≡ numbers_at n i (behind 1 s)
numbers_next zero i s = refl
numbers_next (suc n) i s = ap₂ ◌∷◌ (ap word_value (word_next i s)) (numbers_next n (suc i) s)

-- what n numbers at the start of s come to
record Found (s : List ℕ) (zs : List ℤ) (t : List ℕ) : Type 0 where
  count : spaces s ≡ length zs + spaces t
  rest : behind (length zs) s ≡ t
  numbers : numbers_at (length zs) 0 s ≡ zs
  each : (j : ℕ) → j < length zs → is_whole (word j s) ≡ true

module _ {w s t : List ℕ} {z : ℤ} {zs : List ℤ} (p : SignedNumber w z) (r : Found s zs t) where
  found_each : (j : ℕ) → j < suc (length zs) → is_whole (word j (w ++ space ∷ s)) ≡ true
  found_each zero h = ap is_whole (joined_word s w (whole_free p)) ∙ whole_true p
  found_each (suc j) h =
      ap is_whole (word_next j (w ++ space ∷ s) ∙ ap (word j) (joined_behind s w (whole_free p))) ∙ r.each j (omega arith)

  found_next : Found (w ++ space ∷ s) (z ∷ zs) t
  found_next =
      let free = whole_free p in
      let b = joined_behind s w free in
      record {
        count = omega (arith, joined_spaces s w free, r.count);
        rest = behind_next (length zs) (w ++ space ∷ s) ∙ ap (behind (length zs)) b ∙ r.rest;
        numbers = ap₂ ◌∷◌ (ap word_value (joined_word s w free) ∙ whole_value_lem p) (numbers_next (length zs) 0 (w ++ space ∷ s) ∙ ap (numbers_at (length zs) 0) b ∙ r.numbers);
        each = found_each;
      }

found : {s t : List ℕ} {zs : List ℤ} → Spaced s zs t → Found s zs t
unfolding behind
found none = record { count = omega arith; rest = refl; numbers = refl; each = λ j h. absurd (omega arith) }
found (next p r) = found_next p (found r)

numbers_all : (s : List ℕ) (n : ℕ) → ((j : ℕ) → j < n → is_whole (word (suc j) s) ≡ true) → number_words n s ≡ true
unfolding number_words
numbers_all s zero h = refl
numbers_all s (suc n) h = numbers_more s n (numbers_all s n (λ j k. h j (omega arith))) (h n (omega arith))

-- the line of M and a space, and what stands behind them
module _ (front : List ℕ) {zs : List ℤ} {u : ℕ} {text : List ℕ} {z : ℤ} (eleven : length zs ≡ 11) (p : Spaced front zs (u ∷ space ∷ text)) (l : IsLetter u) (q : SignedNumber text z) where
  abbrev line : List ℕ
  line = 77 ∷ space ∷ front

  lead : spaces (77 ∷ []) ≡ 0
  lead = byte_free 77 (λ e. omega arith)

  unit_free : spaces (u ∷ []) ≡ 0
  unit_free = let h = letter_low l in byte_free u (λ e. omega arith)

  thirteen : spaces line ≡ 13
  thirteen = omega (arith, led_spaces 77 front lead, (found p).count, led_spaces u text unit_free, whole_free q, eleven)

  behind_numbers : behind 11 front ≡ u ∷ space ∷ text
  behind_numbers = ap (λ (n : ℕ). behind n front) (sym eleven) ∙ (found p).rest

  unit_word : word 12 line ≡ u ∷ []
  unit_word = led_word 77 front lead 11 ∙ word_behind 11 front ∙ ap (word 0) behind_numbers ∙ joined_word text (u ∷ []) unit_free

  last_word : word 13 line ≡ text
  last_word =
      led_word 77 front lead 12
      ∙ word_behind 12 front
      ∙ ap (word 0) (behind_suc 11 front ∙ ap (behind 1) behind_numbers ∙ joined_behind text (u ∷ []) unit_free)
      ∙ word_alone text (whole_free q)

  eleven_numbers : number_words 11 line ≡ true
  eleven_numbers = numbers_all line 11 (λ j h. ap is_whole (led_word 77 front lead j) ∙ (found p).each j (omega arith))

  the_numbers : numbers_at 11 1 line ≡ zs
  the_numbers =
      numbers_next 11 0 line
      ∙ ap (numbers_at 11 0) (joined_behind front (77 ∷ []) lead)
      ∙ ap (λ (n : ℕ). numbers_at n 0 front) (sym eleven)
      ∙ (found p).numbers

  sole_unit : sole (word 12 line) ≡ u
  unfolding sole
  sole_unit = ap sole unit_word

  line_measures : is_measurement line ≡ true
  unfolding is_measurement
  line_measures =
      and_both (eq-eqb _ _ thirteen)
      (and_both eleven_numbers
      (and_both (ap is_letter sole_unit ∙ letter_reads u l) (ap is_whole last_word ∙ whole_true q)))

  figures_are : figures_at line ≡ figures_from zs
  unfolding figures_at figures_from
  figures_are = ap figures_from the_numbers

  line_says : ◌≡◌ {A = Measurement} (measurement_at line) (record { unit = u; figures = figures_from zs; temperature = z })
  unfolding measurement_at
  line_says = λ i. record {
    unit = sole_unit i;
    figures = figures_are i;
    temperature = (ap word_value last_word ∙ whole_value_lem q) i;
  }

  line_reads : event_of line ≡ Measured (measurement_at line)
  unfolding event_of
  line_reads =
      let k = led_byte 77 front lead in
      cond_no _ _ (sym (and_fails _ (ne_eqb (sole (word 0 line)) 82 (λ e. omega arith))))
      ∙ cond_no _ _ (sym (and_fails _ (ne_eqb (sole (word 0 line)) 83 (λ e. omega arith))))
      ∙ cond_yes _ _ (and_both (eq-eqb _ _ k) line_measures)

pub measurement_reads : (s : List ℕ) (m : Measurement) → SaysMeasurement s m → event_of s ≡ Measured m
measurement_reads s m r =
    ap event_of r.is
    ∙ line_reads r.front r.eleven r.spaced r.letter r.last
    ∙ ap Measured (line_says r.front r.eleven r.spaced r.letter r.last ∙ sym r.says)
