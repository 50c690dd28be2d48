-- What the code's readers of fields answer, against what the codecs parse: a field behind its tag, a text behind its tags, fields in a row.
-- Assumes nothing.
use Prim.Native.Nat.{ℕ, ◌-◌, ◌<◌, ◌≤◌}
use mathlib.Core.List.{List, [], ◌∷◌}
use mathlib.Core.Path.{◌≡◌, refl, sym, ap, ◌∙◌}
use native.Mathlib.Omega.{arith}
use borrow.Author.Tests.{eq-eqb, ne_eqb}
use lib.Dec.{eqb}
use lib.ListN.{length, take, drop, get_or}
use lib.Seq.{take_all}
use Rattle.std.specs.Prelude.{None, Option, Some}
use Rattle.laws.proofs.Tests.{cond_yes, cond_no, told, never}
use Rattle.digits.specs.Digits.{read_field, read_decimal}
use Rattle.digits.proofs.Laws.{digits_read}
use Rattle.codec.specs.Codec.{Codec, Got, got, wrong, passed, both, field_says, number, text, starts_with, tagged, read_tagged, text_behind, read_whole, parsed}

-- ---- a number, by what its reader answered

pub gave : (i : ℕ) {r f : Option ℕ} {n : ℕ} → r ≡ f → r ≡ Some n → field_says i f ≡ got n
unfolding field_says
gave i e g = ap (field_says i) (sym e ∙ g)

pub refused : (i : ℕ) {r f : Option ℕ} → r ≡ f → r ≡ None → field_says i f ≡ wrong i
unfolding field_says
refused i e g = ap (field_says i) (sym e ∙ g)

-- ---- a field behind its tag

module _ (t : ℕ) (read : List ℕ → Option ℕ) where
  pub untagged : (s : List ℕ) → (get_or s 0 0 ≡ t → ⊥) → None ≡ read_tagged t read s
  unfolding read_tagged
  untagged [] n = refl
  untagged (x ∷ s) n = rw (ne_eqb x t n)

  pub behind_tag : (s : List ℕ) {f : Option ℕ} → 0 < length s → get_or s 0 0 ≡ t → f ≡ read (take (length s - 1) (drop 1 s)) → f ≡ read_tagged t read s
  unfolding read_tagged
  behind_tag [] h y e = absurd (omega arith)
  behind_tag (x ∷ s) h y e = rw (eq-eqb x t y) (e ∙ ap read (take_all (length (x ∷ s) - 1) s (omega arith)))

  pub tagged_says : (i : ℕ) (c : Codec ℕ) (s : List ℕ) → field_says i (read (drop 1 s)) ≡ c.parse (drop 1 s) → field_says i (read_tagged t read s) ≡ (tagged t i c).parse s
  unfolding read_tagged field_says
  tagged_says i c s e = told (starts_with t s) (λ y. rw y e) (λ n. rw n)

pub tagged_number : (t i b off w top : ℕ) (s : List ℕ) → field_says i (read_tagged t (read_field b off top) s) ≡ (tagged t i (number i b off w top)).parse s
tagged_number t i b off w top s = tagged_says t (read_field b off top) i (number i b off w top) s refl

-- a number that was read is at most what was asked for
pub tagged_low : (t top n : ℕ) (s : List ℕ) → read_tagged t (read_decimal top) s ≡ Some n → n ≤ top
unfolding read_tagged
tagged_low t top n s e =
    told (starts_with t s)
    (λ y. (digits_read 10 48 (omega arith) (drop 1 s) n top (sym (cond_yes _ None y) ∙ e)).0)
    (λ no. let z : None ≡ Some n = sym (cond_no _ None no) ∙ e in never (cc))

-- ---- a text behind its tags

-- tags, one after the other
abbrev pub tagged_by : {A : Type 0} → List ℕ → ℕ → Codec A → Codec A
tagged_by [] i c = c
tagged_by (t ∷ ts) i c = tagged t i (tagged_by ts i c)

pub text_behind_lem : (ts : List ℕ) (i w : ℕ) (s : List ℕ) → (tagged_by ts i (text i w)).parse s ≡ passed (text_behind ts s) i (drop (length ts) s)
unfolding text_behind passed
text_behind_lem [] i w s = refl
text_behind_lem (t ∷ ts) i w [] = refl
text_behind_lem (t ∷ ts) i w (x ∷ s) = told (eqb x t) (λ e. rw e (text_behind_lem ts i w s)) (λ e. rw e)

-- ---- bytes of the right number, and of another

pub read_whole_lem : (w : ℕ) (read : List ℕ → Option ℕ) (s : List ℕ) → length s ≡ w → read_whole w read s ≡ read s
unfolding read_whole
read_whole_lem w read s l = cond_yes _ _ (eq-eqb _ _ l)

module _ {A : Type 0} (c : Codec A) (i : ℕ) {w : ℕ} (e : c.width ≡ w) (s : List ℕ) where
  pub parsed_whole : length s ≡ w → parsed c i s ≡ c.parse s
  unfolding parsed
  parsed_whole l = cond_yes _ _ (eq-eqb _ _ (l ∙ sym e))

  pub parsed_other : (length s ≡ w → ⊥) → parsed c i s ≡ wrong i
  unfolding parsed
  parsed_other n = cond_no _ _ (ne_eqb _ _ (λ l. n (l ∙ e)))

-- ---- two in a row

module _ {A B : Type 0} where
  pub wrong_first : {p : Got A} (q : Got B) {i : ℕ} → p ≡ wrong i → both p q ≡ wrong i
  unfolding both
  wrong_first q e = rw e

  pub wrong_later : {p : Got A} {q : Got B} {a : A} {i : ℕ} → p ≡ got a → q ≡ wrong i → both p q ≡ wrong i
  unfolding both
  wrong_later e f = rw (e, f)

  pub right_both : {p : Got A} {q : Got B} {a : A} {b : B} → p ≡ got a → q ≡ got b → both p q ≡ got (a, b)
  unfolding both
  right_both e f = rw (e, f)
