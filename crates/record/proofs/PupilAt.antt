-- Where the pupil stands in the contents of a form: what spells them is what spells their pupil, between bytes that are spelt in one way.
-- Assumes nothing.
use Prim.Native.Nat.{ℕ, ◌+◌}
use mathlib.Core.List.{List, [], ◌∷◌, ◌++◌, map, append_assoc}
use mathlib.Core.Path.{◌≡◌, refl, ap, ap₂, ◌∙◌}
use lib.IntN.{ℤ, pos}
use lib.ListN.{length, take, drop, replicate, length-append}
use Rattle.laws.specs.Every.{every}
use Rattle.digits.specs.Digits.{digits}
use Rattle.codec.specs.Codec.{Codec, failing, first, text_ok, number, ◌⊗◌, via_iso, spellings, each}
use Rattle.codec.specs.Places.{Place, field_of}
use Rattle.codec.proofs.Exact.{first_zero}
use Rattle.pointed.specs.Pointed.{pointed}
use Rattle.stop.specs.Stop.{stop_ok, stop, pair}
use Rattle.pupil.specs.Pupil.{pupil_ok, pupil_text, pupil_packed}
use Rattle.record.specs.Record.{top_distance, top_pupil, front_lowest, middle_lowest, back_lowest, figures_lowest, record_lowest, no_figures}
use Rattle.record.specs.Places.{text_places, packed_places}
use Rattle.record.specs.Forms.{Front, Middle, Groups, front_text, middle_text, back_text, view_text, zoom_text, front_packed, middle_packed, back_packed, serial, groups_of, of_parts, parts_of, pupil_of, text_form, packed_form}
use Rattle.record.specs.declared.Figures.{Figures}
use Rattle.record.specs.declared.Record.{Record}
use Rattle.record.proofs.Exact.{front_text_long}

pub record PupilAt {A : Type 0} (form : Codec A) (rule : A → ℕ) (pupil_of : A → ℤ) (pupil : Codec ℤ) (places : List Place) (at : ℕ) : Type 0 where
  pub before : A → List ℕ
  pub behind : A → List ℕ
  pub long : (a : A) → length (before a) ≡ at
  pub spelt : (a : A) → spellings form a ≡ map (λ t. before a ++ (t ++ behind a)) (spellings pupil (pupil_of a))
  pub field : (s : List ℕ) → field_of places 10 s ≡ take pupil.width (drop at s)
  pub low : (a : A) → rule a ≡ 0 → pupil.lowest (pupil_of a) ≡ 0
  -- contents that may be sent, with their pupil at zero
  pub zero : (a : A) × (rule a ≡ 0) × (pupil_of a ≡ pos 0)

-- spelt in one way
abbrev Single : {A : Type 0} → Codec A → Type 0
Single {A} c = (a : A) → c.also a ≡ []

-- the spellings of the pupil, between the fields before it and the one behind
around : (f m v z : List ℕ) (ts : List (List ℕ)) → each (f ∷ []) (each (m ∷ []) (each (v ∷ []) (each ts (z ∷ [])))) ≡ map (λ t. (f ++ (m ++ v)) ++ (t ++ z)) ts
around f m v z [] = refl
around f m v z (t ∷ ts) = ap₂ ◌∷◌ (simp append_assoc) (around f m v z ts)

-- and one more behind
and_behind : (b z s : List ℕ) (ts : List (List ℕ)) → each (map (λ t. b ++ (t ++ z)) ts) (s ∷ []) ≡ map (λ t. b ++ (t ++ (z ++ s))) ts
and_behind b z s [] = refl
and_behind b z s (t ∷ ts) = ap₂ ◌∷◌ (simp append_assoc) (and_behind b z s ts)

pub figures_pupil_low : (f : Figures) → figures_lowest top_distance top_pupil f ≡ 0 → failing (pupil_ok f.pupil) 10 ≡ 0
unfolding figures_lowest back_lowest
figures_pupil_low f h =
    let back = (first_zero _ _ (first_zero _ _ h).1).1 in
    (first_zero _ _ (first_zero _ _ back).1).0

pupil_low : (r : Record) → record_lowest r ≡ 0 → failing (pupil_ok r.figures.pupil) 10 ≡ 0
unfolding record_lowest
pupil_low r h = figures_pupil_low r.figures (first_zero _ _ h).0

-- a record that may be sent, with its pupil at zero
abbrev zero_record : Record
zero_record = record { figures = no_figures; serial = replicate 9 32 }

zero_sendable : record_lowest zero_record ≡ 0
unfolding record_lowest figures_lowest front_lowest middle_lowest back_lowest failing first text_ok every stop_ok
zero_sendable = refl

module _ (front : Codec Front) (middle : Codec Middle) (view : Codec ℕ) (pupil : Codec ℤ) (zoom : Codec ℕ) where
  -- fields 1 to 9
  abbrev pub before_pupil : Groups → List ℕ
  before_pupil p = front.print p.0 ++ (middle.print p.1.0 ++ view.print p.1.1.0)

  module _ (f : Single front) (m : Single middle) (v : Single view) (z : Single zoom) where
    pub groups_spelt : (p : Groups) →
        spellings (front ⊗ (middle ⊗ (view ⊗ (pupil ⊗ zoom)))) p ≡ map (λ t. before_pupil p ++ (t ++ zoom.print p.1.1.1.1)) (spellings pupil p.1.1.1.0)
    groups_spelt p =
        rw (f p.0, m p.1.0, v p.1.1.0, z p.1.1.1.1)
        (around (front.print p.0) (middle.print p.1.0) (view.print p.1.1.0) (zoom.print p.1.1.1.1) (spellings pupil p.1.1.1.0))

    form_at : (places : List Place) (at : ℕ) → ((p : Groups) → length (before_pupil p) ≡ at) →
        ((s : List ℕ) → field_of places 10 s ≡ take pupil.width (drop at s)) → ((y : ℤ) → pupil.lowest y ≡ failing (pupil_ok y) 10) →
        PupilAt (via_iso of_parts parts_of ((front ⊗ (middle ⊗ (view ⊗ (pupil ⊗ zoom)))) ⊗ serial)) record_lowest pupil_of pupil places at
    unfolding serial
    form_at places at long field low = record {
      before = λ r. before_pupil (groups_of r.figures);
      behind = λ r. zoom.print r.figures.zoom ++ serial.print r.serial;
      long = λ r. long (groups_of r.figures);
      spelt = λ r.
          let p = groups_of r.figures in
          ap (λ (l : List (List ℕ)). each l (serial.print r.serial ∷ [])) (groups_spelt p)
          ∙ and_behind (before_pupil p) (zoom.print r.figures.zoom) (serial.print r.serial) (spellings pupil r.figures.pupil);
      field = field;
      low = λ r h. low r.figures.pupil ∙ pupil_low r h;
      zero = (zero_record, zero_sendable, refl);
    }

pub before_text : (p : Groups) → length (front_text.print p.0 ++ (middle_text.print p.1.0 ++ view_text.print p.1.1.0)) ≡ 54
unfolding middle_text pointed digits
before_text p = length-append (front_text.print p.0) _ ∙ ap (λ (n : ℕ). n + 35) (front_text_long p.0)

pub text_at : PupilAt text_form record_lowest pupil_of pupil_text text_places 54
unfolding text_form front_text middle_text back_text stop pointed pupil_text text_places field_of
text_at =
    form_at front_text middle_text view_text pupil_text zoom_text (λ f. refl) (λ m. refl) (λ v. refl) (λ z. refl)
    text_places 54 before_text (λ s. refl) (λ y. refl)

pub packed_at : PupilAt packed_form record_lowest pupil_of pupil_packed packed_places 25
unfolding packed_form front_packed middle_packed back_packed pair digits pupil_packed packed_places field_of
packed_at =
    form_at front_packed middle_packed (number 9 64 64 2 4095) pupil_packed (number 11 64 64 2 1000) (λ f. refl) (λ m. refl) (λ v. refl) (λ z. refl)
    packed_places 25 (λ p. refl) (λ s. refl) (λ y. refl)
