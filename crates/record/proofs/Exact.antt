-- Both forms are exact, blame the first wrong field where document 01 has it stand, and send exactly the records that the one rule allows.
-- Assumes nothing.
use Prim.Native.Nat.{ℕ, suc, ◌<◌, ◌≤◌, ◌^◌}
use mathlib.Core.List.{[], ◌∷◌, ◌++◌}
use mathlib.Core.Path.{◌≡◌, refl}
use native.Mathlib.Omega.{arith}
use lib.ListN.{length, length-append}
use Rattle.digits.specs.Digits.{digits, widest}
use Rattle.codec.specs.Codec.{Codec, number}
use Rattle.codec.specs.Places.{end_to_end, further}
use Rattle.codec.proofs.Exact.{Exact, holds, first_zero}
use Rattle.codec.proofs.Texts.{text_long}
use Rattle.codec.proofs.Blames.{Alone, Blames, digits_alone, number_alone, text_alone, tagged_alone, alone_blames, ⊗_blames, iso_blames}
use Rattle.pointed.specs.Pointed.{pointed}
use Rattle.pointed.proofs.Exact.{pointed_alone}
use Rattle.stop.specs.Stop.{stop_text, stop, pair}
use Rattle.stop.specs.Places.{pair_places}
use Rattle.stop.proofs.Exact.{stop_long}
use Rattle.stop.proofs.Blames.{stop_alone, pair_blames}
use Rattle.pupil.specs.Pupil.{pupil_text, pupil_packed}
use Rattle.pupil.proofs.Exact.{text_alone as pupil-text, packed_alone as pupil-packed}
use Rattle.record.specs.Record.{top_distance, front_lowest, middle_lowest, back_lowest, figures_lowest, record_lowest}
use Rattle.record.specs.Forms.{Front, front_text, middle_text, back_by, back_text, zoom_text, front_packed, middle_packed, back_packed, serial, of_parts, parts_of, text_length, packed_length, text_form, packed_form}
use Rattle.record.specs.Places.{text_places, packed_places}
use Rattle.record.specs.declared.Record.{Record}

-- field i as w groups
groups_alone : (i w top : ℕ) → w ≤ widest → top < 64 ^ w → Alone (suc i) (number (suc i) 64 64 w top)
groups_alone i w top h k = number_alone i 64 64 w top (omega arith) h k

pub front_text_lem : Blames front_text 0 (end_to_end 0 (8 ∷ 5 ∷ 4 ∷ 2 ∷ []))
unfolding front_text stop
front_text_lem =
    ⊗_blames _ _ 0 _ _ (alone_blames _ 0 (digits_alone 68 0 7 top_distance (omega arith) (omega arith)))
    (⊗_blames _ _ 1 _ _ (alone_blames _ 1 (digits_alone 84 1 4 4095 (omega arith) (omega arith)))
    (⊗_blames _ _ 2 _ _ (alone_blames _ 2 (tagged_alone 116 3 _ stop_alone))
    (alone_blames _ 3 (digits_alone 43 3 1 9 (omega arith) (omega arith)))))

pub middle_text_lem : Blames middle_text 4 (end_to_end 0 (5 ∷ 8 ∷ 8 ∷ 8 ∷ []))
unfolding middle_text
middle_text_lem =
    ⊗_blames _ _ 4 _ _ (alone_blames _ 4 (digits_alone 90 4 4 1023 (omega arith) (omega arith)))
    (⊗_blames _ _ 5 _ _ (alone_blames _ 5 (digits_alone 72 5 7 top_distance (omega arith) (omega arith)))
    (⊗_blames _ _ 6 _ _ (alone_blames _ 6 (digits_alone 78 6 7 top_distance (omega arith) (omega arith)))
    (alone_blames _ 7 (digits_alone 70 7 7 top_distance (omega arith) (omega arith)))))

-- whatever zoom stands behind V and E
pub back_blames : (zoom : Codec ℕ) → Alone 11 zoom → Blames (back_by zoom) 8 (end_to_end 0 (6 ∷ 5 ∷ zoom.width ∷ []))
unfolding pointed pupil_text
back_blames zoom u =
    ⊗_blames _ _ 8 _ _ (alone_blames _ 8 (tagged_alone 86 9 _ (pointed_alone 8 3 4095 (omega arith) (omega arith))))
    (⊗_blames _ _ 9 _ _ (alone_blames _ 9 pupil-text) (alone_blames _ 10 u))

back_text_lem : Blames back_text 8 (end_to_end 0 (6 ∷ 5 ∷ 5 ∷ []))
unfolding back_text
back_text_lem = back_blames zoom_text (digits_alone 122 10 4 1000 (omega arith) (omega arith))

front_packed_lem : Blames front_packed 0 (end_to_end 0 (5 ∷ 2 ∷ []) ++ further 7 pair_places)
unfolding front_packed
front_packed_lem =
    ⊗_blames _ _ 0 _ _ (alone_blames _ 0 (tagged_alone 100 1 _ (groups_alone 0 4 top_distance (omega arith) (omega arith))))
    (⊗_blames _ _ 1 _ _ (alone_blames _ 1 (groups_alone 1 2 4095 (omega arith) (omega arith))) pair_blames)

middle_packed_lem : Blames middle_packed 4 (end_to_end 0 (2 ∷ 4 ∷ 4 ∷ 4 ∷ []))
unfolding middle_packed
middle_packed_lem =
    ⊗_blames _ _ 4 _ _ (alone_blames _ 4 (groups_alone 4 2 1023 (omega arith) (omega arith)))
    (⊗_blames _ _ 5 _ _ (alone_blames _ 5 (groups_alone 5 4 top_distance (omega arith) (omega arith)))
    (⊗_blames _ _ 6 _ _ (alone_blames _ 6 (groups_alone 6 4 top_distance (omega arith) (omega arith)))
    (alone_blames _ 7 (groups_alone 7 4 top_distance (omega arith) (omega arith)))))

back_packed_lem : Blames back_packed 8 (end_to_end 0 (2 ∷ 2 ∷ 2 ∷ []))
unfolding back_packed pupil_packed
back_packed_lem =
    ⊗_blames _ _ 8 _ _ (alone_blames _ 8 (groups_alone 8 2 4095 (omega arith) (omega arith)))
    (⊗_blames _ _ 9 _ _ (alone_blames _ 9 pupil-packed) (alone_blames _ 10 (groups_alone 10 2 1000 (omega arith) (omega arith))))

pub serial_blames : Blames serial 11 (end_to_end 0 (10 ∷ []))
unfolding serial
serial_blames = alone_blames _ 11 (tagged_alone 83 12 _ (text_alone 11 9))

pub text_form_blames : Blames text_form 0 text_places
unfolding text_form text_places front_text middle_text back_text stop pointed pupil_text
text_form_blames =
    iso_blames of_parts parts_of _ (λ p. refl) (λ r. refl) 0 _
    (⊗_blames _ _ 0 _ _ (⊗_blames _ _ 0 _ _ front_text_lem (⊗_blames _ _ 4 _ _ middle_text_lem back_text_lem)) serial_blames)

pub packed_form_blames : Blames packed_form 0 packed_places
unfolding packed_form packed_places front_packed middle_packed back_packed pair pupil_packed
packed_form_blames =
    iso_blames of_parts parts_of _ (λ p. refl) (λ r. refl) 0 _
    (⊗_blames _ _ 0 _ _ (⊗_blames _ _ 0 _ _ front_packed_lem (⊗_blames _ _ 4 _ _ middle_packed_lem back_packed_lem)) serial_blames)

pub text_form_exact : Exact text_form
text_form_exact = text_form_blames.exact

pub packed_form_exact : Exact packed_form
packed_form_exact = packed_form_blames.exact

-- one rule for both forms
pub text_lowest : (r : Record) → text_form.lowest r ≡ record_lowest r
unfolding text_form front_text middle_text back_text serial stop pointed pupil_text record_lowest figures_lowest front_lowest middle_lowest back_lowest
text_lowest r = refl

pub packed_lowest : (r : Record) → packed_form.lowest r ≡ record_lowest r
unfolding packed_form front_packed middle_packed back_packed serial pair pupil_packed record_lowest figures_lowest front_lowest middle_lowest back_lowest
packed_lowest r = refl

pub serial_long : (r : Record) → record_lowest r ≡ 0 → length r.serial ≡ 9
unfolding record_lowest
serial_long r z = text_long 9 r.serial (holds _ 11 (first_zero _ _ z).1)

pub front_text_long : (p : Front) → length (front_text.print p) ≡ 19
unfolding front_text stop digits
front_text_long p = rw (length-append (stop_text p.1.1.0), stop_long)

pub text_form_width : text_form.width ≡ text_length
unfolding text_form front_text middle_text back_text serial stop pointed pupil_text
text_form_width = refl

pub packed_form_width : packed_form.width ≡ packed_length
unfolding packed_form front_packed middle_packed back_packed serial pair pupil_packed
packed_form_width = refl
