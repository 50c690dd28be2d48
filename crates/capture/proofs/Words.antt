-- Words: what stands before a byte, how many spaces are left, where the next word starts, and a line as its words. Assumes nothing.
use Prim.Native.Nat.{ℕ, zero, suc, ◌+◌, ◌-◌, ◌≤◌, ◌<◌}
use mathlib.Core.List.{List, [], ◌∷◌, ◌++◌}
use mathlib.Core.Path.{◌≡◌, refl, sym, ap, ◌∙◌}
use native.Mathlib.Omega.{arith}
use borrow.Author.Tests.{eq-eqb, ne_eqb, eqb-true}
use lib.Dec.{eqb}
use lib.ListN.{length, get_or, take, drop, length-drop, drop_of_length-le}
use lib.Seq.{drop-drop, take-append_seam, drop-append-add}
use Rattle.std.specs.List.{count_by}
use Rattle.std.proofs.lemmas.List.Recursion.{is_count_by}
use Rattle.laws.proofs.Tests.{told}
use Rattle.capture.specs.Words.{before, space, behind, word, spaces, sole}

-- ---- what stands before a byte

pub before_low : (x : ℕ) (s : List ℕ) → before x s ≤ length s
unfolding before
before_low x [] = omega arith
before_low x (b ∷ s) =
    let h = before_low x s in
    told (eqb b x) (λ e. rw e (omega arith)) (λ e. rw e (omega arith))

-- the place of the first such byte
pub before_is : (x : ℕ) (s : List ℕ) (n : ℕ) → n ≤ length s → ((k : ℕ) → k < n → get_or s k 0 ≡ x → ⊥) → (n < length s → get_or s n 0 ≡ x) → n ≡ before x s
unfolding before
before_is x [] n fits low here = omega arith
before_is x (b ∷ s) zero fits low here = rw (eq-eqb b x (here (omega arith)))
before_is x (b ∷ s) (suc n) fits low here =
    rw (ne_eqb b x (low 0 (omega arith))) (ap suc (before_is x s n (omega arith) (λ k h. low (suc k) (omega arith)) (λ h. here (omega arith))))

-- ---- spaces

-- the bytes that are spaces, counted
pub spaces_counted : (s : List ℕ) → spaces s ≡ count_by (λ b. eqb b space) s
unfolding spaces
spaces_counted =
    is_count_by spaces (λ b. eqb b space) refl (λ b s. told (eqb b space) (λ e. rw e (omega arith)) (λ e. rw e))

-- ---- where a word starts

-- nothing stands behind the end
pub behind_nothing : (k : ℕ) → behind k [] ≡ []
unfolding behind before
behind_nothing zero = refl
behind_nothing (suc k) = behind_nothing k

-- one space more, from a place on
pub behind_more : (k at n : ℕ) (s : List ℕ) → n ≡ before space (drop at s) → behind (suc k) (drop at s) ≡ behind k (drop (at + n + 1) s)
unfolding behind
behind_more k at n s e =
    let f : at + suc n ≡ at + n + 1 = omega arith in
    ap (behind k) (ap (λ (j : ℕ). drop (suc j) (drop at s)) (sym e) ∙ drop-drop (suc n) at s ∙ ap (λ (j : ℕ). drop j s) f)

-- no space is left
pub behind_last : (k at n : ℕ) (s : List ℕ) → n ≡ before space (drop at s) → length s - at ≤ n → behind (suc k) (drop at s) ≡ []
unfolding behind
behind_last k at n s e h =
    let l : length (drop at s) ≤ suc (before space (drop at s)) = rw (length-drop, ← e) (omega arith) in
    ap (behind k) (drop_of_length-le (drop at s) l) ∙ behind_nothing k

-- ---- a word of one byte

pub sole_is : (w : List ℕ) → 0 < sole w → w ≡ sole w ∷ []
unfolding sole
sole_is [] h = absurd (omega arith)
sole_is (a ∷ []) h = refl
sole_is (a ∷ b ∷ w) h = absurd (omega arith)

pub sole_one : (w : List ℕ) → length w ≡ 1 → get_or w 0 0 ≡ sole w
unfolding sole
sole_one [] e = refl
sole_one (a ∷ []) e = refl
sole_one (a ∷ b ∷ w) e = absurd (omega arith)

pub sole_other : (w : List ℕ) → (length w ≡ 1 → ⊥) → 0 ≡ sole w
unfolding sole
sole_other [] e = refl
sole_other (a ∷ []) e = absurd (e refl)
sole_other (a ∷ b ∷ w) e = refl

-- ---- a line by its spaces

-- the first space parts it
first_parts : (s : List ℕ) → 0 < spaces s → s ≡ take (before space s) s ++ space ∷ drop (suc (before space s)) s
unfolding spaces before
first_parts [] h = absurd (omega arith)
first_parts (b ∷ s) h =
    told (eqb b space)
    (λ e. rw e (ap (λ (x : ℕ). x ∷ s) (eqb-true b space e)))
    (λ e. rw e (ap (λ (x : List ℕ). b ∷ x) (first_parts s (rw e at h))))

behind_first : (s : List ℕ) → 0 < spaces s → s ≡ take (before space s) s ++ space ∷ behind 1 s
unfolding behind
behind_first = first_parts

first_passed : (s : List ℕ) → 0 < spaces s → spaces s ≡ suc (spaces (drop (suc (before space s)) s))
unfolding spaces before
first_passed [] h = absurd (omega arith)
first_passed (b ∷ s) h = told (eqb b space) (λ e. rw e) (λ e. rw e (first_passed s (rw e at h)))

none_parts : (s : List ℕ) → spaces s ≡ 0 → take (before space s) s ≡ s
unfolding spaces before
none_parts [] h = refl
none_parts (b ∷ s) h =
    told (eqb b space)
    (λ e. absurd (let z : suc (spaces s) ≡ 0 = rw e at h in omega arith))
    (λ e. rw e (ap (λ (x : List ℕ). b ∷ x) (none_parts s (rw e at h))))

pub behind_suc : (i : ℕ) (s : List ℕ) → behind (suc i) s ≡ behind 1 (behind i s)
unfolding behind
behind_suc zero s = refl
behind_suc (suc i) s = behind_suc i (drop (suc (before space s)) s)

-- so many spaces are left
pub spaces_behind : (i k : ℕ) (s : List ℕ) → spaces s ≡ i + k → spaces (behind i s) ≡ k
unfolding behind
spaces_behind zero k s e = omega arith
spaces_behind (suc i) k s e =
    let h = first_passed s (omega arith) in
    spaces_behind i k (drop (suc (before space s)) s) (omega arith)

-- the word there, its space, and what stands behind it
pub word_parts : (i : ℕ) (s : List ℕ) → 0 < spaces (behind i s) → behind i s ≡ word i s ++ space ∷ behind (suc i) s
unfolding word
word_parts i s h = rw (behind_suc i s) (behind_first (behind i s) h)

-- the last word
pub word_last : (i : ℕ) (s : List ℕ) → spaces (behind i s) ≡ 0 → word i s ≡ behind i s
unfolding word
word_last i s h = none_parts (behind i s) h

-- a word without a space, and a space behind it
module _ (t : List ℕ) where
  joined_before : (w : List ℕ) → spaces w ≡ 0 → before space (w ++ space ∷ t) ≡ length w
  unfolding spaces before
  joined_before [] h = refl
  joined_before (b ∷ w) h =
      told (eqb b space)
      (λ e. absurd (let z : suc (spaces w) ≡ 0 = rw e at h in omega arith))
      (λ e. rw e (ap suc (joined_before w (rw e at h))))

  pub joined_spaces : (w : List ℕ) → spaces w ≡ 0 → spaces (w ++ space ∷ t) ≡ suc (spaces t)
  unfolding spaces
  joined_spaces [] h = refl
  joined_spaces (b ∷ w) h =
      told (eqb b space)
      (λ e. absurd (let z : suc (spaces w) ≡ 0 = rw e at h in omega arith))
      (λ e. rw e (joined_spaces w (rw e at h)))

  pub joined_word : (w : List ℕ) → spaces w ≡ 0 → word 0 (w ++ space ∷ t) ≡ w
  unfolding word behind
  joined_word w h = rw (joined_before w h) (take-append_seam w (space ∷ t))

  pub joined_behind : (w : List ℕ) → spaces w ≡ 0 → behind 1 (w ++ space ∷ t) ≡ t
  unfolding behind
  joined_behind w h =
      let e : suc (length w) ≡ length w + 1 = omega arith in
      rw (joined_before w h, e) (drop-append-add w (space ∷ t) 1)

-- a word further on, seen from behind the first
pub behind_next : (i : ℕ) (s : List ℕ) → behind (suc i) s ≡ behind i (behind 1 s)
unfolding behind
behind_next i s = refl

pub word_next : (i : ℕ) (s : List ℕ) → word (suc i) s ≡ word i (behind 1 s)
unfolding word behind
word_next i s = refl

pub word_behind : (i : ℕ) (s : List ℕ) → word i s ≡ word 0 (behind i s)
unfolding word behind
word_behind i s = refl

-- the whole of a line without a space
pub word_alone : (s : List ℕ) → spaces s ≡ 0 → word 0 s ≡ s
unfolding behind
word_alone s h = word_last 0 s h

-- a byte that is no space, a space, and the rest
module _ (x : ℕ) (t : List ℕ) (h : spaces (x ∷ []) ≡ 0) where
  pub led_spaces : spaces (x ∷ space ∷ t) ≡ suc (spaces t)
  led_spaces = joined_spaces t (x ∷ []) h

  pub led_byte : sole (word 0 (x ∷ space ∷ t)) ≡ x
  unfolding sole
  led_byte = ap sole (joined_word t (x ∷ []) h)

  pub led_word : (i : ℕ) → word (suc i) (x ∷ space ∷ t) ≡ word i t
  led_word i = word_next i (x ∷ space ∷ t) ∙ ap (word i) (joined_behind t (x ∷ []) h)

-- what a line starts with, by the byte of its first word
pub leads : (s : List ℕ) → 0 < spaces s → 0 < sole (word 0 s) → s ≡ sole (word 0 s) ∷ space ∷ behind 1 s
unfolding behind
leads s h k = word_parts 0 s h ∙ ap (λ (w : List ℕ). w ++ space ∷ behind 1 s) (sole_is (word 0 s) k)
