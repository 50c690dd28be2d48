-- The pupil's two forms are exact, and the code's readers find what the codecs parse. Assumes nothing.
use Prim.Native.Nat.{ℕ, zero, suc, ◌+◌, ◌/◌, ◌%◌, ◌≤◌, ◌<◌}
use mathlib.Core.List.{List, [], ◌∷◌}
use mathlib.Core.Bool.{Bool, true, false, ◌&&◌, cond}
use mathlib.Core.Logic.{◌⊎◌, inl, inr}
use mathlib.Core.Path.{◌≡◌, refl, sym, ap, ap₂, subst, ◌∙◌}
use native.Mathlib.Omega.{arith}
use borrow.Author.Tests.{leb-true, le-leb, eqb-true, eq-eqb, ne_eqb, eqb-false}
use lib.ListN.{length}
use lib.Arith.{lt_of_le-ne}
use lib.Dec.{leb, eqb}
use lib.IntN.{ℤ, pos, negsuc}
use Rattle.std.specs.Prelude.{None, Option, Some}
use Rattle.laws.specs.Member.{◌∈◌}
use Rattle.laws.proofs.MemberLaws.{the_only}
use Rattle.laws.proofs.Tests.{told, cond_yes, cond_no, never}
use Rattle.sign.specs.Sign.{size, below0, signed_of}
use Rattle.digits.specs.Digits.{digits, read_decimal, read_groups}
use Rattle.codec.specs.Codec.{Got, got, wrong, Codec, spellings, passed, failing, first, both, chained, field_says, number, letter, ◌⊗◌}
use Rattle.codec.proofs.Exact.{Exact, Codes, holds, fine, first_zero, zero_first, passed_is}
use Rattle.codec.proofs.Blames.{Alone, number_alone, letter_alone, tagged_alone, ⊗_alone, through_alone}
use Rattle.pupil.specs.Pupil.{pupil_ok, pupil_by, zero_too, sign_byte, is_sign, pupil_text, pupil_code, pupil_packed, plus_text, minus_text, plus_packed, minus_packed, signed_field, signed_in, read_pupil_text, code_in, read_pupil_packed, pupil_says}

-- ---- a sign and a size

-- each number in range goes out as its sign and size, and comes back
sent_back : (z : ℤ) → pupil_ok z ≡ true → pupil_by (below0 z) (size z) ≡ got z
unfolding passed
sent_back (pos n) h = rw h
sent_back (negsuc n) h = rw h

-- what is taken has the number's sign and size, or is minus zero
record Own (below : Bool) (n : ℕ) (z : ℤ) : Type 0 where
  pub sign : below0 z ≡ below
  pub size_is : size z ≡ n

record Minus (below : Bool) (n : ℕ) (z : ℤ) : Type 0 where
  pub minus : below ≡ true
  pub none : n ≡ 0
  pub zero_is : z ≡ pos 0

taken_of : (below : Bool) (n : ℕ) → Own below n (signed_of below n) ⊎ Minus below n (signed_of below n)
taken_of false n = inl (record { sign = refl; size_is = refl })
taken_of true zero = inr (record { minus = refl; none = refl; zero_is = refl })
taken_of true (suc n) = inl (record { sign = refl; size_is = refl })

in_range_lem : (below : Bool) (n : ℕ) → leb n 999 ≡ true → pupil_ok (signed_of below n) ≡ true
in_range_lem false n h = h
in_range_lem true zero h = h
in_range_lem true (suc n) h = h

taken : {C : Type 0} (below : Bool) (n : ℕ) (z : ℤ) → pupil_by below n ≡ got z → (pupil_ok z ≡ true → Own below n z ⊎ Minus below n z → C) → C
taken below n z e f =
    let p = passed_is (leb n 999) 10 (signed_of below n) z e in
    f (ap pupil_ok (sym p.1) ∙ in_range_lem below n p.0) (subst (λ (y : ℤ). Own below n y ⊎ Minus below n y) p.1 (taken_of below n))

-- ---- the other code of zero

pub zero_of : (z : ℤ) → eqb (size z) 0 ≡ true → z ≡ pos 0
zero_of (pos n) e = ap pos (eqb-true n 0 e)
zero_of (negsuc n) e = let k = eqb-true (suc n) 0 e in absurd (omega arith)

module _ {A : Type 0} (code : A) where
  pub too_in : {x : A} {z : ℤ} → x ≡ code → z ≡ pos 0 → x ∈ zero_too code z
  too_in {x} e h = subst (λ (y : ℤ). x ∈ zero_too code y) (sym h) (inl e)

  pub in_too : {x : A} (z : ℤ) → x ∈ zero_too code z → (x ≡ code) × (z ≡ pos 0)
  in_too {x} z k =
      told (eqb (size z) 0)
      (λ y. (the_only (subst (λ (b : Bool). x ∈ cond b (code ∷ []) []) y k), zero_of z y))
      (λ n. absurd (subst (λ (b : Bool). x ∈ cond b (code ∷ []) []) n k))

-- ---- text

sign_is : (z : ℤ) → eqb (sign_byte z) 45 ≡ below0 z
sign_is (pos n) = refl
sign_is (negsuc n) = refl

sign_ok : (z : ℤ) → is_sign (sign_byte z) ≡ true
sign_ok (pos n) = refl
sign_ok (negsuc n) = refl

-- the byte of a sign is the sign's byte
sign_byte_lem : (z : ℤ) (x : ℕ) → is_sign x ≡ true → below0 z ≡ eqb x 45 → sign_byte z ≡ x
sign_byte_lem z x h e =
    told (eqb x 45)
    (λ y. ap (λ (b : Bool). cond b 45 43) (e ∙ y) ∙ sym (eqb-true x 45 y))
    (λ n.
    told (eqb x 43)
    (λ y. ap (λ (b : Bool). cond b 45 43) (e ∙ n) ∙ sym (eqb-true x 43 y))
    (λ m. never (cc (rw (m, n) at h))))

abbrev signed_digits : Codec (ℕ × ℕ)
signed_digits = letter 10 is_sign ⊗ number 10 10 48 3 999

abbrev read_signed : ℕ × ℕ → Got ℤ
read_signed p = pupil_by (eqb p.0 45) p.1

text_sent : (z : ℤ) (p : ℕ × ℕ) → pupil_ok z ≡ true → p ∈ ((sign_byte z, size z) ∷ zero_too (45, 0) z) → (signed_digits.lowest p ≡ 0) × (read_signed p ≡ got z)
unfolding passed failing first
text_sent z p h (inl e) =
    rw e (
      zero_first _ _ (fine (is_sign (sign_byte z)) 10 (sign_ok z)) (fine (leb (size z) 999) 10 h),
      ap (λ (b : Bool). pupil_by b (size z)) (sign_is z) ∙ sent_back z h,
    )
text_sent z p h (inr k) = let m = in_too (45, 0) z k in rw (m.0, m.1) (refl, refl)

text_taken : (p : ℕ × ℕ) (z : ℤ) → is_sign p.0 ≡ true → Own (eqb p.0 45) p.1 z ⊎ Minus (eqb p.0 45) p.1 z → p ∈ ((sign_byte z, size z) ∷ zero_too (45, 0) z)
text_taken p z h (inl o) = inl (ap₂ (λ (x y : ℕ). (x, y)) (sym (sign_byte_lem z p.0 h o.sign)) (sym o.size_is))
text_taken p z h (inr m) = inr (too_in (45, 0) (ap₂ (λ (x y : ℕ). (x, y)) (eqb-true p.0 45 m.minus) m.none) m.zero_is)

text_codes : Codes signed_digits pupil_ok (λ z. (sign_byte z, size z)) (zero_too (45, 0)) read_signed
text_codes = record {
  sent = text_sent;
  taken = λ p z l e.
      let f = first_zero (failing (is_sign p.0) 10) (failing (leb p.1 999) 10) l in
      taken (eqb p.0 45) p.1 z e (λ ok t. (ok, text_taken p z (holds (is_sign p.0) 9 f.0) t));
}

-- one field, whatever of it is wrong
pub text_alone : Alone 10 pupil_text
unfolding pupil_text
text_alone =
    tagged_alone 69 10 _
    (through_alone 9 pupil_ok _ _ _ _ _ text_codes (pos 0) refl
    (⊗_alone 10 _ _ (letter_alone 9 is_sign 43 refl) (number_alone 9 10 48 3 999 (omega arith) (omega arith) (omega arith))))

pub text_exact : Exact pupil_text
text_exact = text_alone.exact

-- ---- packed

code_is : (z : ℤ) → pupil_ok z ≡ true → (pupil_code z ≤ 4095) × ((eqb (pupil_code z / 2048) 1 ≡ below0 z) × (pupil_code z % 2048 ≡ size z))
code_is (pos n) h =
    let k : n ≤ 999 = leb-true n 999 h in
    (omega arith, (ne_eqb (n / 2048) 1 (λ e. omega arith), omega arith))
code_is (negsuc n) h =
    let k : suc n ≤ 999 = leb-true (suc n) 999 h in
    (omega arith, (eq-eqb ((2048 + suc n) / 2048) 1 (omega arith), omega arith))

code_back : (z : ℤ) (k : ℕ) → k ≤ 4095 → below0 z ≡ eqb (k / 2048) 1 → size z ≡ k % 2048 → pupil_code z ≡ k
code_back z k low b n =
    told (eqb (k / 2048) 1)
    (λ y.
    let q : k / 2048 ≡ 1 = eqb-true (k / 2048) 1 y in
    cond_yes (2048 + size z) (size z) (b ∙ y) ∙ omega arith)
    (λ m.
    let q : k / 2048 < 1 = lt_of_le-ne {i = k / 2048} {k = 1} (omega arith) (eqb-false (k / 2048) 1 m) in
    cond_no (2048 + size z) (size z) (b ∙ m) ∙ omega arith)

abbrev read_code : ℕ → Got ℤ
read_code k = pupil_by (eqb (k / 2048) 1) (k % 2048)

packed_sent : (z : ℤ) (k : ℕ) → pupil_ok z ≡ true → k ∈ (pupil_code z ∷ zero_too 2048 z) → ((number 10 64 64 2 4095).lowest k ≡ 0) × (read_code k ≡ got z)
unfolding passed failing
packed_sent z k h (inl e) = let c = code_is z h in rw e (fine _ 10 (le-leb _ _ c.0), ap₂ pupil_by c.1.0 c.1.1 ∙ sent_back z h)
packed_sent z k h (inr w) = let m = in_too 2048 z w in rw (m.0, m.1) (refl, refl)

packed_taken : (k : ℕ) (z : ℤ) → k ≤ 4095 → Own (eqb (k / 2048) 1) (k % 2048) z ⊎ Minus (eqb (k / 2048) 1) (k % 2048) z → k ∈ (pupil_code z ∷ zero_too 2048 z)
packed_taken k z low (inl o) = inl (sym (code_back z k low o.sign o.size_is))
packed_taken k z low (inr m) =
    let q : k / 2048 ≡ 1 = eqb-true (k / 2048) 1 m.minus in
    let r : k % 2048 ≡ 0 = m.none in
    inr (too_in 2048 (omega arith) m.zero_is)

packed_codes : Codes (number 10 64 64 2 4095) pupil_ok pupil_code (zero_too 2048) read_code
packed_codes = record {
  sent = packed_sent;
  taken = λ k z l e. taken (eqb (k / 2048) 1) (k % 2048) z e (λ ok t. (ok, packed_taken k z (leb-true k 4095 (holds (leb k 4095) 9 l)) t));
}

pub packed_alone : Alone 10 pupil_packed
unfolding pupil_packed
packed_alone = through_alone 9 pupil_ok _ _ _ _ _ packed_codes (pos 0) refl (number_alone 9 64 64 2 4095 (omega arith) (omega arith) (omega arith))

pub packed_exact : Exact pupil_packed
packed_exact = packed_alone.exact

pub text_width : pupil_text.width ≡ 5
unfolding pupil_text
text_width = refl

pub packed_width : pupil_packed.width ≡ 2
unfolding pupil_packed
packed_width = refl

-- ---- zero is spelt in two ways, all else in one

-- zero goes out as plus, and is read of plus and of minus
pub record TwoZeros (pupil : Codec ℤ) (plus minus : List ℕ) : Type 0 where
  pub exact : Exact pupil
  pub sendable : pupil.lowest (pos 0) ≡ 0
  pub sent : pupil.print (pos 0) ≡ plus
  pub spelt : (z : ℤ) → spellings pupil z ≡ pupil.print z ∷ zero_too minus z

pub text_zeros : TwoZeros pupil_text plus_text minus_text
unfolding pupil_text digits failing
text_zeros = record { exact = text_exact; sendable = refl; sent = refl; spelt = λ z. told (eqb (size z) 0) (λ y. rw y) (λ n. rw n) }

pub packed_zeros : TwoZeros pupil_packed plus_packed minus_packed
unfolding pupil_packed digits failing
packed_zeros = record { exact = packed_exact; sendable = refl; sent = refl; spelt = λ z. told (eqb (size z) 0) (λ y. rw y) (λ n. rw n) }

-- ---- the code's readers

field_says_lem : (below : Bool) (n : ℕ) → pupil_says (signed_field below n) ≡ pupil_by below n
unfolding pupil_says signed_field passed
field_says_lem below n = told (leb n 999) (λ y. rw y) (λ m. rw m)

code_says : (f : Option ℕ) → pupil_says (code_in f) ≡ chained read_code (field_says 10 f)
unfolding field_says chained pupil_says
code_says (Some k) = field_says_lem (eqb (k / 2048) 1) (k % 2048)
code_says None = refl

pub packed_read : (s : List ℕ) → length s ≡ 2 → pupil_says (read_pupil_packed s) ≡ pupil_packed.parse s
unfolding read_pupil_packed pupil_packed
packed_read s l = rw (eq-eqb _ _ l) (code_says (read_groups 4095 s))

-- the sign is read: what is left is its size
signed_by_lem : (x : ℕ) (f : Option ℕ) → chained read_signed (both (got x) (field_says 10 f)) ≡ pupil_says (signed_in (eqb x 45) f)
unfolding both chained field_says pupil_says
signed_by_lem x (Some n) = sym (field_says_lem (eqb x 45) n)
signed_by_lem x None = refl

five : (a x : ℕ) (f : Option ℕ) →
    pupil_says (cond (eqb a 69 && is_sign x) (signed_in (eqb x 45) f) None)
    ≡ cond (eqb a 69) (chained read_signed (both (passed (is_sign x) 10 x) (field_says 10 f))) (wrong 10)
unfolding passed both chained pupil_says
five a x f =
    told (eqb a 69)
    (λ e. told (is_sign x) (λ g. rw (e, g) (sym (signed_by_lem x f))) (λ g. rw (e, g)))
    (λ e. rw e)

pub text_read : (s : List ℕ) → length s ≡ 5 → pupil_says (read_pupil_text s) ≡ pupil_text.parse s
unfolding read_pupil_text pupil_text
text_read (a ∷ x ∷ b ∷ c ∷ d ∷ []) l = five a x (read_decimal 999 (b ∷ c ∷ d ∷ []))
text_read (a ∷ x ∷ b ∷ c ∷ d ∷ e ∷ s) l = absurd (omega arith)
text_read (a ∷ x ∷ b ∷ c ∷ []) l = absurd (omega arith)
text_read (a ∷ x ∷ b ∷ []) l = absurd (omega arith)
text_read (a ∷ x ∷ []) l = absurd (omega arith)
text_read (a ∷ []) l = absurd (omega arith)
text_read [] l = absurd (omega arith)
