-- What the form finds in the contents of an N message, in terms of the parts that the code takes. Assumes nothing.
use Prim.Native.Nat.{ℕ, ◌+◌, ◌≤◌}
use mathlib.Core.Bool.{Bool, true, false}
use mathlib.Core.List.{List, [], ◌∷◌}
use mathlib.Core.Path.{◌≡◌, refl, sym, ap, ap₂, ◌∙◌}
use native.Mathlib.Omega.{arith}
use lib.ListN.{length, get_or, take, drop, length-take, length-drop}
use lib.Seq.{get_or-take, get_or-drop, drop-drop, take_all}
use Rattle.laws.proofs.ListLaws.{drop_of_take}
use Rattle.digits.specs.Digits.{read_decimal}
use Rattle.codec.specs.Codec.{Got, got, wrong, passed, both, mapped, field_says, letter, number, text, tagged, read_tagged, text_behind}
use Rattle.codec.proofs.Fields.{tagged_number, tagged_by, text_behind_lem}
use Rattle.fixed.specs.Fixed.{kind_ok, letter_ok, fixed_of}
use Rattle.fixed.specs.Form.{serial, owner, LensParts, lens_of, lens_items, version, of_parts, fixed_form, fixed_length}
use Rattle.fixed.specs.declared.Lens.{Lens}
use Rattle.nreader.specs.Reader.{read_letter, letter_says}
use Rattle.nreader.proofs.Letters.{tagged_letter}

-- a letter behind its tag, at n
letter_at : (t i : ℕ) (ok : ℕ → Bool) (s : List ℕ) (n : ℕ) → n + 2 ≤ length s →
    (tagged t i (letter i ok)).parse (take 2 (drop n s)) ≡ letter_says i (read_letter t ok (get_or s (n + 0) 0) (get_or s (n + 1) 0))
letter_at t i ok s n h =
    tagged_letter t i ok (take 2 (drop n s)) (simp (length-take, length-drop) (omega arith))
    ∙ ap₂ (λ (x y : ℕ). letter_says i (read_letter t ok x y))
    (get_or-take 2 (drop n s) 0 0 (omega arith) ∙ get_or-drop n s 0 0)
    (get_or-take 2 (drop n s) 1 0 (omega arith) ∙ get_or-drop n s 1 0)

-- a number behind its tag
number_in : (t i w top : ℕ) {s s' : List ℕ} → s ≡ s' → (tagged t i (number i 10 48 w top)).parse s ≡ field_says i (read_tagged t (read_decimal top) s')
number_in t i w top {s' = s'} e = ap (tagged t i (number i 10 48 w top)).parse e ∙ sym (tagged_number t i 10 48 w top s')

-- items 3 to 7
module _ (s : List ℕ) (l : length s ≡ 15) where
  abbrev items_found : Got LensParts
  items_found =
      both (letter_says 3 (read_letter 76 kind_ok (get_or s 0 0) (get_or s 1 0)))
      (both (field_says 4 (read_tagged 78 (read_decimal 999) (take 4 (drop 2 s))))
      (both (field_says 5 (read_tagged 77 (read_decimal 999) (take 4 (drop 6 s))))
      (both (letter_says 6 (read_letter 85 letter_ok (get_or s 10 0) (get_or s 11 0)))
      (field_says 7 (read_tagged 84 (read_decimal 99) (take 3 (drop 12 s)))))))

  lens_parts_lem : lens_items.parse s ≡ mapped lens_of items_found
  unfolding lens_items
  lens_parts_lem =
      let six : drop 4 (drop 2 s) ≡ drop 6 s = drop-drop 4 2 s in
      let ten : drop 4 (drop 4 (drop 2 s)) ≡ drop 10 s = ap (drop 4) six ∙ drop-drop 4 6 s in
      let twelve : drop 2 (drop 4 (drop 4 (drop 2 s))) ≡ drop 12 s = ap (drop 2) ten ∙ drop-drop 2 10 s in
      ap (mapped lens_of)
      (ap₂ both (letter_at 76 3 kind_ok s 0 (omega arith))
      (ap₂ both (number_in 78 4 3 999 refl)
      (ap₂ both (number_in 77 5 3 999 (ap (take 4) six))
      (ap₂ both (ap (λ (r : List ℕ). (tagged 85 6 (letter 6 letter_ok)).parse (take 2 r)) ten ∙ letter_at 85 6 letter_ok s 10 (omega arith))
      (number_in 84 7 2 99 (twelve ∙ sym (take_all 3 (drop 12 s) (simp length-drop (omega arith)))))))))

  -- one of them is wrong, or all are right
  pub lens_wrong_part : {i : ℕ} → items_found ≡ wrong i → wrong i ≡ lens_items.parse s
  unfolding mapped
  lens_wrong_part e = rw (lens_parts_lem, e)

  pub lens_right : {p : LensParts} → items_found ≡ got p → got (lens_of p) ≡ lens_items.parse s
  unfolding mapped
  lens_right e = rw (lens_parts_lem, e)

-- ---- the whole

-- a text behind its tags, in the part of m bytes from a on
text_in_lem : (ts : List ℕ) (i w a m b : ℕ) (s : List ℕ) → m ≡ length ts + w → a + length ts ≡ b →
    (tagged_by ts i (text i w)).parse (take m (drop a s)) ≡ passed (text_behind ts (take m (drop a s))) i (take w (drop b s))
text_in_lem ts i w a m b s e h =
    text_behind_lem ts i w (take m (drop a s))
    ∙ ap (passed (text_behind ts (take m (drop a s))) i) (drop_of_take (length ts) w m (drop a s) e ∙ ap (take w) (drop-drop (length ts) a s ∙ ap (λ (j : ℕ). drop j s) h))

lens_width : lens_items.width ≡ 15
unfolding lens_items
lens_width = refl

module _ (s : List ℕ) (l : length s ≡ fixed_length) where
  abbrev serial_in : Bool
  serial_in = text_behind (78 ∷ 83 ∷ []) (take 11 s)

  abbrev owner_in : Bool
  owner_in = text_behind (79 ∷ []) (take 32 (drop 11 s))

  abbrev lens_found : Got Lens
  lens_found = lens_items.parse (take 15 (drop 43 s))

  abbrev version_in : Bool
  version_in = text_behind (32 ∷ 32 ∷ 66 ∷ []) (take 7 (drop 58 s))

  fixed_parts : fixed_form.parse s ≡ mapped of_parts
      (both (passed serial_in 1 (take 9 (drop 2 s)))
      (both (passed owner_in 2 (take 31 (drop 12 s)))
      (both lens_found (passed version_in 8 (take 4 (drop 61 s))))))
  unfolding fixed_form serial owner version
  fixed_parts =
      let at43 : drop 32 (drop 11 s) ≡ drop 43 s = drop-drop 32 11 s in
      let at58 : drop lens_items.width (drop 32 (drop 11 s)) ≡ take 7 (drop 58 s) =
      ap₂ drop lens_width at43 ∙ drop-drop 15 43 s ∙ sym (take_all 7 (drop 58 s) (simp length-drop (omega arith))) in
      ap (mapped of_parts)
      (ap₂ both (text_in_lem (78 ∷ 83 ∷ []) 1 9 0 11 2 s refl refl)
      (ap₂ both (text_in_lem (79 ∷ []) 2 31 11 32 12 s refl refl)
      (ap₂ both (ap lens_items.parse (ap₂ take lens_width at43))
      (ap (tagged_by (32 ∷ 32 ∷ 66 ∷ []) 8 (text 8 4)).parse at58 ∙ text_in_lem (32 ∷ 32 ∷ 66 ∷ []) 8 4 58 7 61 s refl refl))))

  -- how each test decides
  pub serial_wrong : serial_in ≡ false → wrong 1 ≡ fixed_form.parse s
  unfolding passed both mapped
  serial_wrong a = rw (fixed_parts, a)

  module _ (a : serial_in ≡ true) where
    pub owner_wrong : owner_in ≡ false → wrong 2 ≡ fixed_form.parse s
    unfolding passed both mapped
    owner_wrong b = rw (fixed_parts, a, b)

    module _ (b : owner_in ≡ true) where
      pub lens_wrong : (i : ℕ) → lens_found ≡ wrong i → wrong i ≡ fixed_form.parse s
      unfolding passed both mapped
      lens_wrong i c = rw (fixed_parts, a, b, c)

      module _ (x : Lens) (c : lens_found ≡ got x) where
        pub version_wrong : version_in ≡ false → wrong 8 ≡ fixed_form.parse s
        unfolding passed both mapped
        version_wrong d = rw (fixed_parts, a, b, c, d)

        pub all_right : version_in ≡ true → got (fixed_of (take 9 (drop 2 s)) (take 31 (drop 12 s)) x (take 4 (drop 61 s))) ≡ fixed_form.parse s
        unfolding passed both mapped
        all_right d = rw (fixed_parts, a, b, c, d)
