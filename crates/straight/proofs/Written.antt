-- The text of what packed bytes say: how long its groups are, the pupil's sign, and the groups one behind the other. Assumes nothing.
use Prim.Native.Nat.{ℕ, ◌+◌, ◌/◌, ◌%◌, ◌^◌, ◌≤◌, ◌<◌}
use mathlib.Core.List.{List, [], ◌∷◌, ◌++◌, append_assoc}
use mathlib.Core.Logic.{◌≢◌}
use mathlib.Core.Path.{◌≡◌, refl, sym, ap, ◌∙◌}
use native.Mathlib.Numerals.{add-one}
use native.Mathlib.Omega.{arith}
use borrow.Author.Tests.{eq-eqb, ne_eqb}
use lib.Dec.{eqb}
use lib.ListN.{length, take, drop, length-take, length-drop}
use lib.Seq.{length-take-le}
use Rattle.laws.specs.Over.{over}
use Rattle.laws.proofs.OverLaws.{length_over, over_none, over_short, over_before, onto_end}
use Rattle.laws.proofs.Tests.{cond_yes, cond_no}
use Rattle.sign.proofs.Law.{size_signed}
use Rattle.sign.specs.Sign.{size}
use Rattle.digits.specs.Digits.{digits, decimal}
use Rattle.digits.proofs.Laws.{length_digits}
use Rattle.pointed.specs.Pointed.{pointed}
use Rattle.pupil.specs.Pupil.{sign_byte, pupil_text}
use Rattle.record.specs.Forms.{Back, front_text, middle_text, back_text, serial, text_form, text_length, packed_length, front_of, middle_of, back_of}
use Rattle.record.specs.declared.Record.{Record}
use Rattle.text_writer.proofs.Written.{record_long}
use Rattle.packed_bytes.specs.Bytes.{sixes, packed_number, pupil_in, packed_record}
use Rattle.packed_bytes.proofs.Laws.{few_groups}
use Rattle.packed_bytes.proofs.Right.{part_of}
use Rattle.straight.specs.Text.{text_in}

-- ---- the pupil

pub pupil_as : (d : List ℕ) {l : List ℕ} {r c k : ℕ} → r ≡ sign_byte (pupil_in c) → c ≡ k → l ≡ over d 55 (r ∷ decimal 3 (c % 2048)) → l ≡ over d 55 (sign_byte (pupil_in k) ∷ decimal 3 (size (pupil_in k)))
pupil_as d {k = k} e f p = p ∙ rw (e, f, size_signed (eqb (k / 2048) 1) (k % 2048))

-- ---- the groups

-- digits of a number that was read
pub tagged_as : (d : List ℕ) (at t w : ℕ) {l : List ℕ} {n k : ℕ} → n ≡ k → l ≡ over d at (t ∷ decimal w n) → l ≡ over d at (t ∷ decimal w k)
tagged_as d at t w e p = p ∙ ap (λ (x : ℕ). over d at (t ∷ decimal w x)) e

-- a number of w groups from n on in the k bytes from a on
pub number_at : (a k n w : ℕ) (s : List ℕ) → n + w ≤ k → w ≤ 5 → packed_number (take w (drop (a + n) s)) ≡ sixes (take w (drop n (take k (drop a s))))
number_at a k n w s h few =
    few_groups (take w (drop (a + n) s)) (omega (arith, length-take w (drop (a + n) s))) ∙ ap sixes (sym (part_of a k n w s h))

-- a tag over the first of one digit more
pub tag_over : (d : List ℕ) {e f : List ℕ} (a t w n : ℕ) → e ≡ over d a (decimal (w + 1) n) → f ≡ over e a (t ∷ []) → a + (1 + w) ≤ length d →
    f ≡ over d a (t ∷ decimal w n)
unfolding digits
tag_over d a t w n p q h =
    let ds = decimal w n in
    let x = 48 + n / 10 ^ w % 10 in
    let b = over d (a + 1) ds in
    let long : length ds ≡ w = length_digits 10 48 (omega arith) w n in
    let same : length b ≡ length d = length_over d ds (a + 1) in
    let first = p ∙ ap (λ (k : ℕ). over d a (decimal k n)) (add-one w) ∙ sym (over_before d (x ∷ []) ds a (a + 1) refl (omega (arith, long))) in
    onto_end b [] (x ∷ []) (t ∷ []) a a first q (omega arith) (omega arith) (omega (arith, same))
    ∙ over_before d (t ∷ []) ds a (a + 1) refl (omega (arith, long))

pub back_long : (b : Back) → length (back_text.print b) ≡ 16
unfolding back_text pointed pupil_text digits
back_long b = refl

pub contents_are : (r : Record) →
    front_text.print (front_of r.figures) ++ (middle_text.print (middle_of r.figures) ++ (back_text.print (back_of r.figures) ++ 83 ∷ r.serial)) ≡ text_form.print r
unfolding text_form serial
contents_are r = simp append_assoc

-- ---- what is written of any bytes

pub text_in_lem : (s : List ℕ) → length s ≡ packed_length → text_in s ≡ text_form.print (packed_record s)
unfolding text_in
text_in_lem s l = cond_yes _ _ (eq-eqb (length s) packed_length l)

-- other than 39 bytes
pub none_in : (d s : List ℕ) → length s ≢ packed_length → d ≡ over d 0 (text_in s)
unfolding text_in
none_in d s n = sym (ap (over d 0) (cond_no _ _ (ne_eqb (length s) packed_length n)) ∙ over_none d 0 (omega arith))

pub contents_long : (s : List ℕ) → length s ≡ packed_length → length (text_form.print (packed_record s)) ≡ text_length
contents_long s l = record_long (packed_record s) (length-take-le 9 (drop 30 s) (omega (arith, length-drop 30 s)))

-- too little room for 74
pub no_room : (d s : List ℕ) → length s ≡ packed_length → length d < text_length → d ≡ over d 0 (text_in s)
no_room d s l h = sym (ap (over d 0) (text_in_lem s l) ∙ over_short d _ 0 (omega (arith, contents_long s l)))
