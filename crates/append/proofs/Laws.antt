-- What a line's bytes do to a note, by how many there are and which, and what others use of the definitions. Assumes nothing.
use Prim.Native.Nat.{ℕ, ◌≤◌, ◌<◌}
use mathlib.Core.Bool.{Bool, true, false, ◌&&◌}
use mathlib.Core.List.{List, [], ◌∷◌}
use mathlib.Core.Logic.{◌≢◌}
use mathlib.Core.Path.{◌≡◌, refl, sym, ap, ◌∙◌}
use native.Mathlib.Omega.{arith}
use borrow.Author.Tests.{eq-eqb, ne_eqb, le-leb, lt-leb, leb-true, leb-false}
use lib.Dec.{leb, eqb}
use lib.ListN.{length, length-replicate, length-take, get_or, take, drop}
use lib.Seq.{length-take-le, take_all, take-length}
use Rattle.laws.proofs.Tests.{told, cond_yes, cond_no, and_both, and_fails_by}
use Rattle.note.specs.Note.{longest_note, note_ok}
use Rattle.std.specs.Prelude.{None, Some}
use Rattle.append.specs.Append.{appended, zeros, holding, valid_note, set_by, after_o, noted_by}
use Rattle.append.specs.declared.Note.{Note}

pub zeros_long : length zeros ≡ longest_note
unfolding zeros
zeros_long = length-replicate {A = ℕ} longest_note 0

-- ---- what is appended

-- it is no longer than the buffer, and so many bytes of the buffer are it
pub appended_within : (n : Note) → length n.bytes ≡ longest_note → length (appended n) ≤ longest_note
appended_within n l = omega (arith, length-take n.len n.bytes, l)

pub take_appended : (n : Note) → take (length (appended n)) n.bytes ≡ appended n
take_appended n =
    told (leb n.len (length n.bytes))
    (λ e. ap (λ (k : ℕ). take k n.bytes) (length-take-le n.len n.bytes (leb-true n.len (length n.bytes) e)))
    (λ e.
    let h = leb-false n.len (length n.bytes) e in
    let all = take_all n.len n.bytes (omega arith) in
    ap (λ (s : List ℕ). take (length s) n.bytes) all ∙ take-length n.bytes ∙ sym all)

-- ---- which notes are valid

module _ (n : Note) where
  pub valid_none : n.len ≡ 0 → valid_note n ≡ true
  unfolding valid_note
  valid_none e = rw (eq-eqb n.len 0 e)

  pub valid_by : n.len ≢ 0 → n.opened ≡ true → n.len ≤ longest_note → valid_note n ≡ note_ok (appended n)
  unfolding valid_note
  valid_by z o h = rw (ne_eqb n.len 0 z, o, le-leb n.len longest_note h)

  pub invalid_closed : n.len ≢ 0 → n.opened ≡ false → valid_note n ≡ false
  unfolding valid_note
  invalid_closed z o = rw (ne_eqb n.len 0 z, o)

  pub invalid_past : n.len ≢ 0 → n.opened ≡ true → longest_note < n.len → valid_note n ≡ false
  unfolding valid_note
  invalid_past z o h = rw (ne_eqb n.len 0 z, o, lt-leb n.len longest_note h)

-- ---- the bytes of a line

module _ (n : Note) where
  pub set_does : (s : List ℕ) → n.opened ≡ true → note_ok s ≡ true → set_by n s ≡ Some (holding s)
  unfolding set_by
  set_does s o h = cond_yes _ _ (and_both o h)

  pub set_closed : (s : List ℕ) → n.opened ≡ false → set_by n s ≡ None
  unfolding set_by
  set_closed s o = cond_no _ _ (ap (λ (t : Bool). t && note_ok s) o)

  pub set_not : (s : List ℕ) → note_ok s ≡ false → set_by n s ≡ None
  unfolding set_by
  set_not s h = cond_no _ _ (sym (and_fails_by n.opened h))

  pub by_short : (s : List ℕ) → length s < 2 → noted_by n s ≡ None
  unfolding noted_by
  by_short [] h = refl
  by_short (a ∷ []) h = refl
  by_short (a ∷ b ∷ s) h = absurd (omega arith)

  pub by_other : (s : List ℕ) → get_or s 0 0 ≢ 79 → noted_by n s ≡ None
  unfolding noted_by
  by_other [] h = refl
  by_other (a ∷ []) h = refl
  by_other (a ∷ b ∷ []) h = cond_no _ _ (ne_eqb a 79 h)
  by_other (a ∷ b ∷ c ∷ s) h = cond_no _ _ (ap (λ (t : Bool). t && eqb b 68) (ne_eqb a 79 h))

  pub by_set : (s : List ℕ) → 2 ≤ length s → get_or s 0 0 ≡ 79 → get_or s 1 0 ≡ 68 → noted_by n s ≡ set_by n (drop 2 s)
  unfolding noted_by
  by_set [] h p q = absurd (omega arith)
  by_set (a ∷ []) h p q = absurd (omega arith)
  by_set (a ∷ b ∷ []) h p q = cond_yes _ _ (eq-eqb a 79 p) ∙ cond_yes _ _ (eq-eqb b 68 q)
  by_set (a ∷ b ∷ c ∷ s) h p q = cond_yes _ _ (λ i. eq-eqb a 79 p i && eq-eqb b 68 q i)

  pub by_more : (s : List ℕ) → length s ≢ 2 → get_or s 1 0 ≢ 68 → noted_by n s ≡ None
  unfolding noted_by
  by_more [] h q = refl
  by_more (a ∷ []) h q = refl
  by_more (a ∷ b ∷ []) h q = absurd (h refl)
  by_more (a ∷ b ∷ c ∷ s) h q = told (eqb a 79) (λ e. rw (e, ne_eqb b 68 q)) (λ e. rw e)

  pub by_two : (s : List ℕ) → length s ≡ 2 → get_or s 0 0 ≡ 79 → get_or s 1 0 ≢ 68 → noted_by n s ≡ after_o (get_or s 1 0)
  unfolding noted_by
  by_two [] h p q = absurd (omega arith)
  by_two (a ∷ []) h p q = absurd (omega arith)
  by_two (a ∷ b ∷ []) h p q = cond_yes _ _ (eq-eqb a 79 p) ∙ cond_no _ _ (ne_eqb b 68 q)
  by_two (a ∷ b ∷ c ∷ s) h p q = absurd (omega arith)
