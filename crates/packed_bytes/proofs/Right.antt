-- What is tested of packed bytes is whether the packed form's reader finds anything wrong, and what it finds else is what the bytes say. Assumes nothing.
use Prim.Native.Nat.{ℕ, ◌+◌, ◌-◌, ◌/◌, ◌%◌, ◌≤◌, ◌<◌}
use mathlib.Core.Bool.{Bool, true, false, ◌&&◌}
use mathlib.Core.List.{List, [], ◌∷◌}
use mathlib.Core.Path.{◌≡◌, refl, sym, ap, ap₂, ◌∙◌}
use native.Mathlib.Omega.{arith}
use borrow.Author.Tests.{eq-eqb}
use lib.Dec.{leb, eqb}
use lib.ListN.{length, take, drop, get_or, length-drop}
use lib.Seq.{take-take, drop-drop, length-take-le}
use Rattle.std.proofs.lemmas.List.{get_or-take}
use Rattle.std.specs.Prelude.{Err, Ok}
use Rattle.laws.proofs.ListLaws.{drop_of_take}
use Rattle.laws.proofs.Tests.{told, never}
use Rattle.refusal.specs.Answer.{Answer, Verdict, is_accepted}
use Rattle.digits.specs.Digits.{are_digits, only, read_groups}
use Rattle.codec.specs.Codec.{Got, got, wrong, passed, both, mapped, field_says, text_behind, read_tagged}
use Rattle.codec.proofs.Fields.{parsed_whole}
use Rattle.stop.specs.Stop.{stop_ok, stop_in, read_stop, read_tenth}
use Rattle.pupil.specs.Pupil.{read_pupil_packed, signed_field, pupil_says}
use Rattle.frame.specs.Frame.{opening}
use Rattle.frame.specs.Message.{found, read_of}
use Rattle.frame.proofs.Answers.{reads_refused, reads_on}
use Rattle.frame.proofs.Exactly.{opens}
use Rattle.record.specs.Record.{top_distance}
use Rattle.record.specs.Forms.{front_packed, middle_packed, back_packed, packed_form, packed_length, serial, figures_of}
use Rattle.record.specs.declared.Record.{Record}
use Rattle.record.proofs.Exact.{packed_form_exact, packed_form_width}
use Rattle.serial.proofs.Field.{serial_read}
use Rattle.gather.specs.Gather.{record_with}
use Rattle.gather.proofs.Laws.{record_parts}
use Rattle.packed_reader.proofs.Parts.{front_width, middle_width, back_width, front_parts, middle_parts, back_parts}
use Rattle.packed_bytes.specs.Bytes.{is_got, sixes, packed_number, pupil_in, front_in, middle_in, back_in, packed_record}
use Rattle.packed_bytes.proofs.Laws.{few_groups, groups_only}

-- ---- a test, and what is found where it is passed

abbrev pub Tested : {A : Type 0} → Got A → Bool → A → Type 0
Tested {A} q b v = (b ≡ is_got q) × ((a : A) → q ≡ got a → a ≡ v)

tested_both : {A B : Type 0} (p : Got A) (q : Got B) {b c : Bool} {v : A} {w : B} → Tested p b v → Tested q c w → Tested (both p q) (b && c) (v, w)
unfolding both
tested_both (got x) (got y) {v = v} {w = w} s t =
    (rw (s.0, t.0), λ a k. let e : a ≡ (x, y) = cc in e ∙ ap₂ (λ f g. (f, g)) (s.1 x refl) (t.1 y refl))
tested_both (got x) (wrong j) s t = (rw (s.0, t.0), λ a k. never (cc))
tested_both (wrong i) q s t = (rw s.0, λ a k. never (cc))

tested_mapped : {A B : Type 0} (f : A → B) (q : Got A) {b : Bool} {v : A} → Tested q b v → Tested (mapped f q) b (f v)
unfolding mapped
tested_mapped f (got x) s = (s.0, λ a k. let e : a ≡ f x = cc in e ∙ ap f (s.1 x refl))
tested_mapped f (wrong i) s = (s.0, λ a k. never (cc))

tested_passed : {A : Type 0} (b : Bool) (i : ℕ) (v : A) → Tested (passed b i v) b v
unfolding passed
tested_passed true i v = (refl, λ a k. cc)
tested_passed false i v = (refl, λ a k. never (cc))

tested_only : (i : ℕ) (b : Bool) (n : ℕ) → Tested (field_says i (only b n)) b n
unfolding field_says
tested_only i true n = (refl, λ a k. cc)
tested_only i false n = (refl, λ a k. never (cc))

-- ---- the fields

-- bytes that are a number of at most top, and a part of others, which is as long as it is cut
abbrev pub is_number : ℕ → List ℕ → Bool
is_number top s = are_digits 64 64 s && leb (packed_number s) top

part : (n w : ℕ) (s : List ℕ) → n + w ≤ length s → length (take w (drop n s)) ≡ w
part n w s h = length-take-le w (drop n s) (simp length-drop (omega arith))

-- of a part
number : (i top n w : ℕ) (s : List ℕ) → w ≤ 5 → n + w ≤ length s →
    Tested (field_says i (read_groups top (take w (drop n s)))) (is_number top (take w (drop n s))) (sixes (take w (drop n s)))
number i top n w s few h =
    let d = take w (drop n s) in
    let short : length d ≤ 5 = omega (arith, part n w s h) in
    rw (groups_only top d (omega arith), few_groups d short) (tested_only i (are_digits 64 64 d && leb (sixes d) top) (sixes d))

focus : (s : List ℕ) → length s ≡ 9 →
    Tested (field_says 1 (read_tagged 100 (read_groups top_distance) (take 5 s))) (eqb (get_or s 0 0) 100 && is_number top_distance (take 4 (drop 1 s))) (sixes (take 4 (drop 1 s)))
unfolding read_tagged field_says
focus [] l = absurd (omega arith)
focus (x ∷ s) l = told (eqb x 100) (λ y. rw y (number 1 top_distance 0 4 s (omega arith) (omega arith))) (λ n. rw n (refl, λ a k. never (cc)))

stop : (x y : ℕ) → Tested (field_says 3 (read_stop x y)) (eqb (x / 128) 1 && stop_ok (stop_in x y)) (stop_in x y)
unfolding read_stop
stop x y = tested_only 3 _ (stop_in x y)

tenth : (y : ℕ) → Tested (field_says 4 (read_tenth y)) (eqb (y / 128) 1 && leb (y % 64) 9) (y % 64)
unfolding read_tenth
tenth y = tested_only 4 _ (y % 64)

pupil : (s : List ℕ) → length s ≡ 2 → Tested (pupil_says (read_pupil_packed s)) (is_number 4095 s && leb (packed_number s % 2048) 999) (pupil_in (sixes s))
unfolding read_pupil_packed signed_field pupil_says
pupil s l =
    rw (eq-eqb _ _ l, groups_only 4095 s (omega arith), few_groups s (omega arith))
    (told (are_digits 64 64 s && leb (sixes s) 4095)
    (λ y. told (leb (sixes s % 2048) 999) (λ low. rw (y, low) (refl, λ a k. cc)) (λ high. rw (y, high) (refl, λ a k. never (cc))))
    (λ n. rw n (refl, λ a k. never (cc))))

-- ---- the groups, by their fields in order

module _ (s : List ℕ) where
  abbrev pub is_front : Bool
  is_front =
      (eqb (get_or s 0 0) 100 && is_number top_distance (take 4 (drop 1 s)))
      && (is_number 4095 (take 2 (drop 5 s)) && ((eqb (get_or s 7 0 / 128) 1 && stop_ok (stop_in (get_or s 7 0) (get_or s 8 0))) && (eqb (get_or s 8 0 / 128) 1 && leb (get_or s 8 0 % 64) 9)))

  pub front : length s ≡ 9 → Tested (front_packed.parse s) is_front (front_in s)
  front l =
      rw (sym (parsed_whole front_packed 1 front_width s l) ∙ front_parts s l)
      (tested_both _ _ (focus s l) (tested_both _ _ (number 2 4095 5 2 s (omega arith) (omega arith)) (tested_both _ _ (stop _ _) (tenth _))))

  abbrev pub is_middle : Bool
  is_middle = is_number 1023 (take 2 s) && (is_number top_distance (take 4 (drop 2 s)) && (is_number top_distance (take 4 (drop 6 s)) && is_number top_distance (take 4 (drop 10 s))))

  pub middle : length s ≡ 14 → Tested (middle_packed.parse s) is_middle (middle_in s)
  middle l =
      rw (sym (parsed_whole middle_packed 5 middle_width s l) ∙ middle_parts s l)
      (tested_both _ _ (number 5 1023 0 2 s (omega arith) (omega arith))
      (tested_both _ _ (number 6 top_distance 2 4 s (omega arith) (omega arith))
      (tested_both _ _ (number 7 top_distance 6 4 s (omega arith) (omega arith)) (number 8 top_distance 10 4 s (omega arith) (omega arith)))))

  abbrev pub is_back : Bool
  is_back = is_number 4095 (take 2 s) && ((is_number 4095 (take 2 (drop 2 s)) && leb (packed_number (take 2 (drop 2 s)) % 2048) 999) && is_number 1000 (take 2 (drop 4 s)))

  pub back : length s ≡ 6 → Tested (back_packed.parse s) is_back (back_in s)
  back l =
      rw (sym (parsed_whole back_packed 9 back_width s l) ∙ back_parts s l)
      (tested_both _ _ (number 9 4095 0 2 s (omega arith) (omega arith))
      (tested_both _ _ (pupil _ (part 2 2 s (omega arith))) (number 11 1000 4 2 s (omega arith) (omega arith))))

-- ---- the same of a record's bytes

-- a part of a part
pub part_of : (a k n w : ℕ) (s : List ℕ) → n + w ≤ k → take w (drop n (take k (drop a s))) ≡ take w (drop (a + n) s)
part_of a k n w s h =
    ap (take w) (drop_of_take n (k - n) k (drop a s) (omega arith)) ∙ take-take w (k - n) (drop n (drop a s)) (omega arith) ∙ ap (take w) (drop-drop n a s)

module _ (s : List ℕ) (l : length s ≡ packed_length) where
  pub front_says : is_front s ≡ is_got (front_packed.parse (take 9 s))
  front_says =
      rw (← part_of 0 9 1 4 s (omega arith), ← part_of 0 9 5 2 s (omega arith), ← get_or-take 9 s 0 0 (omega arith), ← get_or-take 9 s 7 0 (omega arith), ← get_or-take 9 s 8 0 (omega arith))
      (front (take 9 s) (length-take-le 9 s (omega arith))).0

  pub middle_says : (is_number 1023 (take 2 (drop 9 s)) && (is_number top_distance (take 4 (drop 11 s)) && (is_number top_distance (take 4 (drop 15 s)) && is_number top_distance (take 4 (drop 19 s)))))
      ≡ is_got (middle_packed.parse (take 14 (drop 9 s)))
  middle_says =
      rw (← part_of 9 14 0 2 s (omega arith), ← part_of 9 14 2 4 s (omega arith), ← part_of 9 14 6 4 s (omega arith), ← part_of 9 14 10 4 s (omega arith))
      (middle (take 14 (drop 9 s)) (part 9 14 s (omega arith))).0

  pub back_says : (is_number 4095 (take 2 (drop 23 s)) && ((is_number 4095 (take 2 (drop 25 s)) && leb (packed_number (take 2 (drop 25 s)) % 2048) 999) && is_number 1000 (take 2 (drop 27 s))))
      ≡ is_got (back_packed.parse (take 6 (drop 23 s)))
  back_says =
      rw (← part_of 23 6 0 2 s (omega arith), ← part_of 23 6 2 2 s (omega arith), ← part_of 23 6 4 2 s (omega arith))
      (back (take 6 (drop 23 s)) (part 23 6 s (omega arith))).0

-- ---- a record

text : (s : List ℕ) → Tested (serial.parse (take 10 (drop 29 s))) (text_behind (83 ∷ []) (take 10 (drop 29 s))) (take 9 (drop 30 s))
text s =
    let u = take 10 (drop 29 s) in
    let nine : drop 1 u ≡ take 9 (drop 30 s) = drop_of_take 1 9 10 (drop 29 s) refl ∙ ap (take 9) (drop-drop 1 29 s) in
    rw (serial_read u, nine) (tested_passed (text_behind (83 ∷ []) u) 12 (take 9 (drop 30 s)))

module _ (s : List ℕ) (l : length s ≡ packed_length) where
  pub whole : {b c d : Bool} → b ≡ is_got (front_packed.parse (take 9 s)) → c ≡ is_got (middle_packed.parse (take 14 (drop 9 s))) → d ≡ is_got (back_packed.parse (take 6 (drop 23 s))) →
      Tested (packed_form.parse s) ((b && (c && d)) && text_behind (83 ∷ []) (take 10 (drop 29 s))) (packed_record s)
  unfolding packed_form
  whole e f g =
      let first = length-take-le 9 s (omega arith) in
      rw (record_parts front_packed middle_packed back_packed 9 14 6 front_width middle_width back_width s l)
      (tested_mapped record_with _
      (tested_both _ _
      (tested_mapped figures_of _
      (tested_both _ _ (e, (front (take 9 s) first).1) (tested_both _ _ (f, (middle _ (part 9 14 s (omega arith))).1) (g, (back _ (part 23 6 s (omega arith))).1))))
      (text s)))

-- ---- a message

found_is : (c r : Record) → found (got c) ≡ Ok r → c ≡ r
unfolding found
found_is c r e = cc

not_found : (i : ℕ) (r : Record) → found {A = Record} (wrong i) ≡ Ok r → ◌≡◌ {A = ℕ} 0 1
unfolding found
not_found i r e = never (cc)

pub got_found : (q : Got Record) → is_accepted (found q) ≡ is_got q
unfolding found
got_found (got c) = refl
got_found (wrong i) = refl

-- what is written of a record that may be sent says the record
pub written_says : (r : Record) → packed_form.lowest r ≡ 0 → (length (packed_form.print r) ≡ packed_length) × (packed_record (packed_form.print r) ≡ r)
written_says r h =
    let long = packed_form_exact.long r h ∙ packed_form_width in
    (long, sym ((whole (packed_form.print r) long refl refl refl).1 r (packed_form_exact.back r h)))

-- what the reader accepts is what the bytes of the contents say
pub says : (checksum : Bool) (m : List ℕ) (r : Record) → read_of packed_form checksum m ≡ Ok r → packed_record (take packed_length m) ≡ r
says checksum m r e = by (opening checksum packed_length m) refl where
  found_so : length (take packed_length m) ≡ packed_length → (q : Got Record) → packed_form.parse (take packed_length m) ≡ q → found q ≡ Ok r → packed_record (take packed_length m) ≡ r
  found_so l (got c) k f = sym ((whole (take packed_length m) l refl refl refl).1 c k) ∙ found_is c r f
  found_so l (wrong i) k f = never (not_found i r f)

  by : (v : Verdict) → opening checksum packed_length m ≡ v → packed_record (take packed_length m) ≡ r
  by (Err x) o = never (cc (sym (reads_refused packed_form packed_length packed_form_width checksum m x o) ∙ e))
  by (Ok tt) o =
      found_so (length-take-le packed_length m (omega (arith, (opens checksum packed_length m o).long))) (packed_form.parse (take packed_length m)) refl
      (sym (reads_on packed_form packed_length packed_form_width checksum m o) ∙ e)

pub accepted_so : (checksum : Bool) (m : List ℕ) → is_accepted (read_of packed_form checksum m) ≡ true → read_of packed_form checksum m ≡ Ok (packed_record (take packed_length m))
accepted_so checksum m h = by (read_of packed_form checksum m) refl where
  by : (a : Answer Record) → read_of packed_form checksum m ≡ a → read_of packed_form checksum m ≡ Ok (packed_record (take packed_length m))
  by (Ok r) e = e ∙ ap Ok (sym (says checksum m r e))
  by (Err x) e = never (cc (sym (ap is_accepted e) ∙ h))

-- and nothing shorter than the contents is accepted
pub too_short : (checksum : Bool) (m : List ℕ) → length m < packed_length → is_accepted (read_of packed_form checksum m) ≡ false
too_short checksum m h = by (opening checksum packed_length m) refl where
  by : (v : Verdict) → opening checksum packed_length m ≡ v → is_accepted (read_of packed_form checksum m) ≡ false
  by (Err x) o = ap is_accepted (reads_refused packed_form packed_length packed_form_width checksum m x o)
  by (Ok tt) o = absurd (omega (arith, (opens checksum packed_length m o).long))
