-- What the code's parts answer, against the definitions of an old line and of a line moved. Assumes nothing.
use Prim.Native.Nat.{ℕ, ◌+◌, ◌*◌}
use mathlib.Core.Bool.{true, false}
use mathlib.Core.List.{List}
use mathlib.Core.Path.{◌≡◌, refl, sym, ap, ◌∙◌}
use native.Mathlib.Omega.{arith}
use lib.Dec.{leb}
use lib.ListN.{length, take, drop, length-drop}
use lib.Seq.{take-take, drop-drop, length-take-le}
use Rattle.std.specs.Prelude.{Err, Ok}
use Rattle.laws.proofs.ListLaws.{drop_of_take, last_part}
use Rattle.laws.proofs.Tests.{told}
use Rattle.refusal.specs.Answer.{Answer, and_then, unless}
use Rattle.refusal.specs.declared.Refusal.{Refusal}
use Rattle.refusal.specs.declared.Refusal.TheVariants.{Field, Lost}
use Rattle.digits.specs.Digits.{read_decimal}
use Rattle.std.specs.Prelude.{Option}
use Rattle.codec.specs.Codec.{Got, passed, failing, first, both, chained, field_says, text_ok, read_tagged, parsed}
use Rattle.codec.proofs.Exact.{first_zero}
use Rattle.codec.proofs.Fields.{tagged_number}
use Rattle.pointed.specs.Pointed.{point}
use Rattle.frame.specs.Message.{read_of, message_of, checked, then_write, then_left, write_of, left_by, WritesMessage, Moves}
use Rattle.frame.proofs.Exactly.{reads_only}
use Rattle.record.specs.Record.{top_distance, top_pupil, figures_lowest, record_lowest}
use Rattle.record.specs.Forms.{back_by, text_form, with_serial}
use Rattle.record.specs.declared.Figures.{Figures}
use Rattle.record.specs.declared.Record.{Record}
use Rattle.record.proofs.Exact.{text_lowest, text_form_width}
use Rattle.text_reader.specs.Reader.{with_zoom}
use Rattle.text_reader.proofs.Parts.{back_parts}
use Rattle.archive.specs.Old.{by_ten, old_zoom, old_form, old_length, old_lowest}
use Rattle.archive.specs.Archive.{new_line_length, added, dropped, forward, back}
use Rattle.archive.proofs.Exact.{zoom_width, old_exact, old_lowest_lem}

-- ---- the zoom

-- hundredths as thousandths
abbrev pub from_parts : ℕ × ℕ → Got ℕ
from_parts p = passed (leb (p.0 * 100 + p.1) 100) 11 ((p.0 * 100 + p.1) * 10)

pub zoom_parts : (s : List ℕ) → length s ≡ 5 → old_zoom.parse s ≡
    chained from_parts (both (field_says 11 (read_tagged 122 (read_decimal 1) (take 2 s))) (field_says 11 (read_tagged point (read_decimal 99) (take 3 (drop 2 s)))))
unfolding old_zoom
zoom_parts s l = rw (last_part 2 3 s l, tagged_number 122 11 10 48 1 1 (take 2 s), tagged_number point 11 10 48 2 99 (drop 2 s))

-- V and E in the bytes before it
pub old_back_lem : (s : List ℕ) (z : Option ℕ) → length s ≡ old_length → field_says 11 z ≡ old_zoom.parse (take 5 (drop 59 s)) →
    with_zoom (take 11 (drop 48 s)) z ≡ parsed (back_by old_zoom) 9 (take 16 (drop 48 s))
old_back_lem s z l e =
    let t = take 16 (drop 48 s) in
    let five : take 5 (drop 11 t) ≡ take 5 (drop 59 s) =
    ap (take 5) (drop_of_take 11 5 16 (drop 48 s) refl ∙ ap (take 5) (drop-drop 11 48 s)) ∙ take-take 5 5 (drop 59 s) (omega arith) in
    ap (λ (x : List ℕ). with_zoom x z) (sym (take-take 11 16 (drop 48 s) (omega arith)))
    ∙ back_parts t old_zoom z zoom_width (length-take-le 16 (drop 48 s) (simp length-drop (omega arith))) (e ∙ ap old_zoom.parse (sym five))

-- ---- a line moved

-- what is read decides; then the serial or the thousandths do
module _ (m : List ℕ) where
  pub forward_refused : (s : List ℕ) {x : Refusal} → read_of old_form false m ≡ Err x → forward m s ≡ Err x
  unfolding forward and_then
  forward_refused s e = rw e

  pub forward_read : (s : List ℕ) {f : Figures} → read_of old_form false m ≡ Ok f → forward m s ≡ added s f
  unfolding forward and_then
  forward_read s e = rw e

  pub back_refused : {x : Refusal} → read_of text_form false m ≡ Err x → back m ≡ Err x
  unfolding back and_then
  back_refused e = rw e

  pub back_read : {r : Record} → read_of text_form false m ≡ Ok r → back m ≡ dropped r.figures
  unfolding back and_then
  back_read e = rw e

module _ (f : Figures) where
  pub dropped_yes : by_ten f.zoom ≡ true → dropped f ≡ Ok (message_of old_form false f)
  unfolding dropped unless
  dropped_yes y = rw y

  pub dropped_no : by_ten f.zoom ≡ false → dropped f ≡ Err Lost
  unfolding dropped unless
  dropped_no n = rw n

  module _ (s : List ℕ) where
    pub added_yes : text_ok 9 s ≡ true → added s f ≡ Ok (message_of text_form false (with_serial f s))
    unfolding added unless
    added_yes y = rw y

    pub added_no : text_ok 9 s ≡ false → added s f ≡ Err (Field 12)
    unfolding added unless
    added_no n = rw n

-- what is read of an old line is in the ranges of document 01
pub read_fits : (m : List ℕ) (f : Figures) → read_of old_form false m ≡ Ok f → (figures_lowest top_distance top_pupil f ≡ 0) × (failing (by_ten f.zoom) 11 ≡ 0)
unfolding old_lowest
read_fits m f e = first_zero _ _ (sym (old_lowest_lem f) ∙ (reads_only old_form old_exact false m f e).0)

-- and the writer of a record then has the serial alone to refuse
module _ (f : Figures) (s out : List ℕ) (fits : figures_lowest top_distance top_pupil f ≡ 0) where
  serial_lowest : text_form.lowest (with_serial f s) ≡ failing (text_ok 9 s) 12
  unfolding record_lowest first
  serial_lowest = text_lowest (with_serial f s) ∙ rw fits

  pub added_written : {w : Answer ℕ} {after : List ℕ} → WritesMessage text_form Field false (with_serial f s) out w after → Moves new_line_length (added s f) out w after
  unfolding write_of left_by then_write then_left checked added unless failing
  added_written p =
      told (text_ok 9 s)
      (λ y. let low : text_form.lowest (with_serial f s) ≡ 0 = serial_lowest ∙ rw y in rw y (record { answers = rw (low, text_form_width) at p.answers; leaves = rw low at p.leaves }))
      (λ n. let low : text_form.lowest (with_serial f s) ≡ 12 = serial_lowest ∙ rw n in rw n (record { answers = rw low at p.answers; leaves = rw low at p.leaves }))
