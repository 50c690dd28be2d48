-- Request [6]'s sentences, of the lines that are moved. Statements only: proofs/Promises.antt proves each.
use Rattle.std.specs.Prelude.{ℕ, ◌%◌, Bool, true, false, List, [], ◌∷◌, ◌++◌, ◌↔◌, ◌≢◌, ◌⊎◌, ◌≡◌, length, take, drop, get_or, Err, Ok}
use Rattle.laws.specs.Member.{◌∈◌}
use Rattle.laws.specs.Over.{over}
use Rattle.refusal.specs.Answer.{Answer}
use Rattle.refusal.specs.declared.Refusal.{Refusal}
use Rattle.refusal.specs.declared.Refusal.TheVariants.{Field, Length, Checksum, Contents, Lost}
use Rattle.codec.specs.Codec.{text_ok, spellings}
use Rattle.codec.specs.Ranges.{Ranges, LowestBy}
use Rattle.frame.specs.Laid.{Laid}
use Rattle.frame.specs.Message.{read_of, messages_of}
use Rattle.frame.specs.Refuses.{ReadWhen}
use Rattle.pupil.specs.Pupil.{plus_text, minus_text}
use Rattle.record.specs.Record.{record_lowest}
use Rattle.record.specs.Forms.{text_form, with_serial}
use Rattle.record.specs.Places.{text_places}
use Rattle.record.specs.Ranges.{figures_ranges}
use Rattle.record.specs.declared.Figures.{Figures}
use Rattle.record.specs.declared.Record.{Record}
use Rattle.demand2.specs.MinusZero.{MinusZero}
use Rattle.archive.specs.Old.{by_ten, old_form, old_lowest, old_places, form122}
use Rattle.archive.specs.Archive.{old_line_length, new_line_length, forward, back}
use Rattle.archive.specs.Clauses.{OldToNew, NewToOld}

-- ---- the two lines

-- m is an old line of these figures; a new line of this record
abbrev pub OldLine : Figures → List ℕ → Type 0
OldLine f m = (old_lowest f ≡ 0) × (m ∈ messages_of old_form false f)

abbrev pub NewLine : Record → List ℕ → Type 0
NewLine r m = (record_lowest r ≡ 0) × (m ∈ messages_of text_form false r)

-- what an old line holds: document 01's ranges of fields 1 to 11, and thousandths that divide by ten
abbrev pub old_ranges : Figures → Ranges
old_ranges f = figures_ranges 9999999 999 f ++ (11, by_ten f.zoom) ∷ []

-- -000 in the pupil's place, the same in both lines; and the line with +000 there
abbrev pub Minus : List ℕ → Type 0
Minus m = take 5 (drop 54 m) ≡ minus_text

abbrev pub with_plus : List ℕ → List ℕ
with_plus m = over m 54 plus_text

-- z and x.xx in an old line become z and xxx0, and S and the serial follow: "multiplies the zoom hundredths by ten and adds S"
abbrev pub new_bytes : List ℕ → List ℕ → List ℕ
new_bytes m s = take 61 m ++ (get_or m 62 0 ∷ get_or m 63 0 ∷ 48 ∷ 83 ∷ s) ++ 10 ∷ 13 ∷ []

-- z and xxx0 in a new line become z and x.xx, and nothing follows
abbrev pub old_bytes : List ℕ → List ℕ
old_bytes m = take 61 m ++ 46 ∷ get_or m 61 0 ∷ get_or m 62 0 ∷ 10 ∷ 13 ∷ []

-- the nine bytes behind S in a new line
abbrev pub serial_in : List ℕ → List ℕ
serial_in m = take 9 (drop 65 m)

-- ---- "Refusals: 3 to 6 of the line first, then 1 for the serial, then 11, thousandths lost, then 2"

abbrev pub ForwardWhen : List ℕ → List ℕ → Refusal → Type 0
ForwardWhen m s x =
    ReadWhen old_lowest (spellings old_form) old_places old_line_length false m x ⊎ ((f : Figures) × OldLine f m × (text_ok 9 s ≡ false) × (x ≡ Field 12))

abbrev pub BackWhen : List ℕ → Refusal → Type 0
BackWhen m x =
    ReadWhen record_lowest (spellings text_form) text_places new_line_length false m x ⊎ ((r : Record) × NewLine r m × (r.figures.zoom % 10 ≢ 0) × (x ≡ Lost))

-- ---- all of it

pub record Promised : Type 0 where
  -- "Old D lines": what is moved forward is exactly such a line
  pub old_rule : LowestBy old_lowest old_ranges
  pub old_exactly : (m : List ℕ) (f : Figures) → (read_of old_form false m ≡ Ok f) ↔ OldLine f m
  pub old_long : (m : List ℕ) (f : Figures) → OldLine f m → length m ≡ old_line_length
  -- "`-000` is read as [5] says": as 0 in an old line too, and comes out as +000
  pub old_zero : MinusZero old_form old_lowest (λ f. f.pupil) old_places 54 plus_text minus_text
  -- "Forward multiplies the zoom hundredths by ten and adds S", and all else is as it was
  pub forward_bytes : (m s n : List ℕ) → forward m s ≡ Ok n → (Minus m → ⊥) → n ≡ new_bytes m s
  pub forward_bytes_plus : (m s n : List ℕ) → forward m s ≡ Ok n → Minus m → n ≡ new_bytes (with_plus m) s
  -- so it is a new line, of the same figures and this serial
  pub forward_reads : (m s n : List ℕ) (f : Figures) → OldLine f m → forward m s ≡ Ok n → read_of text_form false n ≡ Ok (with_serial f s)
  -- "Back drops S, and only when the thousandths divide by ten"
  pub back_bytes : (m o : List ℕ) → back m ≡ Ok o → (Minus m → ⊥) → o ≡ old_bytes m
  pub back_bytes_plus : (m o : List ℕ) → back m ≡ Ok o → Minus m → o ≡ old_bytes (with_plus m)
  pub back_reads : (m o : List ℕ) (r : Record) → NewLine r m → back m ≡ Ok o → OldLine r.figures o
  -- "Forward then back returns the old line", "for lines without -000, which comes out as +000"
  pub forward_back : (m s n : List ℕ) → forward m s ≡ Ok n → (back n ≡ Ok m) ↔ (Minus m → ⊥)
  pub forward_back_plus : (m s n : List ℕ) → forward m s ≡ Ok n → Minus m → back n ≡ Ok (with_plus m)
  -- "back then forward with the same serial returns the new one"
  pub back_forward : (m o : List ℕ) → back m ≡ Ok o → (forward o (serial_in m) ≡ Ok m) ↔ (Minus m → ⊥)
  pub back_forward_plus : (m o : List ℕ) → back m ≡ Ok o → Minus m → forward o (serial_in m) ≡ Ok (with_plus m)
  -- "The D reader must answer an old line by refusal, never by a wrong record": under either setting, whether or not the line has a checksum
  pub old_refused : (summed checksum : Bool) (m : List ℕ) (f : Figures) → old_lowest f ≡ 0 → m ∈ messages_of old_form summed f →
      read_of text_form checksum m ≡ Err (Length (length m))
  -- a line of firmware 1.22, with S and x.xx together: 6 with field 11 for the D reader, and so for back, 3 under the other setting; 3 for forward
  pub mixed_refused : (checksum : Bool) (m : List ℕ) (r : Record) → old_lowest r.figures ≡ 0 → text_ok 9 r.serial ≡ true → m ∈ messages_of form122 checksum r →
      read_of text_form checksum m ≡ Err (Contents 11)
  pub mixed_other : (summed checksum : Bool) (m : List ℕ) (r : Record) → old_lowest r.figures ≡ 0 → text_ok 9 r.serial ≡ true → m ∈ messages_of form122 summed r →
      summed ≢ checksum → read_of text_form checksum m ≡ Err (Length (length m))
  pub mixed_forward : (checksum : Bool) (m s : List ℕ) (r : Record) → old_lowest r.figures ≡ 0 → text_ok 9 r.serial ≡ true → m ∈ messages_of form122 checksum r →
      forward m s ≡ Err (Length (length m))
  -- the refusals in their order, each exactly in its case; 5 is none of them
  pub forward_refuses : (m s : List ℕ) (x : Refusal) → (forward m s ≡ Err x) ↔ ForwardWhen m s x
  pub back_refuses : (m : List ℕ) (x : Refusal) → (back m ≡ Err x) ↔ BackWhen m x
  pub forward_never_5 : (m s : List ℕ) → forward m s ≢ Err Checksum
  pub back_never_5 : (m : List ℕ) → back m ≢ Err Checksum
  -- then 2, with 76 and with 66; and what is left in lent memory
  pub forward_long : (m s n : List ℕ) → forward m s ≡ Ok n → length n ≡ new_line_length
  pub back_long : (m o : List ℕ) → back m ≡ Ok o → length o ≡ old_line_length
  pub forward_laid : (m s out : List ℕ) (w : Answer ℕ) (after : List ℕ) → OldToNew m s out w after → Laid new_line_length (forward m s) out w after
  pub back_laid : (m out : List ℕ) (w : Answer ℕ) (after : List ℕ) → NewToOld m out w after → Laid old_line_length (back m) out w after
