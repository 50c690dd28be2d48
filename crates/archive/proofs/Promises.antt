-- Request [6]'s sentences: each line that was moved was read, and what was read is written; so a line comes back as what was read of it is written again.
-- Assumes nothing.
use Prim.Native.Nat.{ℕ, ◌+◌, ◌%◌}
use mathlib.Core.Bool.{true, false}
use mathlib.Core.List.{List}
use mathlib.Core.Logic.{◌↔◌, ◌≢◌, inl, inr}
use mathlib.Core.Path.{◌≡◌, refl, sym, ap, ◌∙◌}
use borrow.Author.Tests.{eqb-true, eq-eqb, ne_eqb}
use lib.ListN.{length}
use Rattle.std.specs.Prelude.{Err, Ok}
use Rattle.laws.proofs.Tests.{told, never}
use Rattle.refusal.specs.Answer.{Answer}
use Rattle.refusal.proofs.Answers.{accepted_is, refused_is}
use Rattle.refusal.specs.declared.Refusal.{Refusal}
use Rattle.refusal.specs.declared.Refusal.TheVariants.{Field, Checksum}
use Rattle.codec.specs.Codec.{text_ok, spellings}
use Rattle.codec.proofs.Exact.{holds, fine, first_zero, zero_first}
use Rattle.codec.proofs.Ranges.{row, rows}
use Rattle.codec.proofs.Texts.{text_long}
use Rattle.codec.specs.Ranges.{LowestBy}
use Rattle.frame.specs.Message.{read_of, message_of}
use Rattle.frame.specs.Refuses.{ReadWhen}
use Rattle.frame.proofs.Exactly.{exactly, reads_written, messages_long, framed_long}
use Rattle.frame.proofs.Laid.{laid}
use Rattle.frame.proofs.Refuses.{refuses}
use Rattle.record.specs.Record.{top_distance, top_pupil, figures_lowest, record_lowest}
use Rattle.record.specs.Forms.{text_form, text_length, with_serial}
use Rattle.record.specs.Places.{text_places}
use Rattle.record.specs.declared.Figures.{Figures}
use Rattle.record.specs.declared.Record.{Record}
use Rattle.record.proofs.Exact.{text_form_blames, text_form_exact, text_form_width, text_lowest}
use Rattle.record.proofs.Ranges.{figures_by_table}
use Rattle.text_writer.proofs.Written.{record_long}
use Rattle.archive.specs.Old.{by_ten, old_form, old_length, old_lowest, old_places}
use Rattle.archive.specs.Archive.{old_line_length, new_line_length, forward, back}
use Rattle.archive.specs.Promises.{OldLine, NewLine, old_ranges, Minus, with_plus, new_bytes, old_bytes, serial_in, ForwardWhen, BackWhen, Promised}
use Rattle.archive.proofs.Exact.{old_blames, old_exact, old_width, old_lowest_lem, old_long}
use Rattle.archive.proofs.Laws.{forward_refused, forward_read, back_refused, back_read, dropped_yes, dropped_no, added_yes, added_no, read_fits}
use Rattle.archive.proofs.Zeros.{old_zero, old_same, old_plus, old_other, new_same, new_plus, new_other}
use Rattle.archive.proofs.Bytes.{bytes_new, bytes_old, serial_in_lem}
use Rattle.archive.proofs.Mixed.{old_refused, mixed_refused, mixed_other, mixed_old}

-- ---- the rules

old_rule : LowestBy old_lowest old_ranges
unfolding old_lowest
old_rule f = rows (figures_by_table _ _ f) (row 10 _)

old_exactly : (m : List ℕ) (f : Figures) → (read_of old_form false m ≡ Ok f) ↔ OldLine f m
old_exactly m f =
    let e = exactly old_form old_exact false m f in
    (λ r. let k = e.0 r in (sym (old_lowest_lem f) ∙ k.0, k.1), λ k. e.1 (old_lowest_lem f ∙ k.0, k.1))

new_exactly : (m : List ℕ) (r : Record) → (read_of text_form false m ≡ Ok r) ↔ NewLine r m
new_exactly m r =
    let e = exactly text_form text_form_exact false m r in
    (λ a. let k = e.0 a in (sym (text_lowest r) ∙ k.0, k.1), λ k. e.1 (text_lowest r ∙ k.0, k.1))

-- figures and thousandths that divide by ten are an old line's; figures and a text of nine bytes a record's
old_fits : (f : Figures) → figures_lowest top_distance top_pupil f ≡ 0 → by_ten f.zoom ≡ true → old_lowest f ≡ 0
unfolding old_lowest
old_fits f h t = zero_first _ _ h (fine _ 11 t)

new_fits : (f : Figures) (s : List ℕ) → figures_lowest top_distance top_pupil f ≡ 0 → text_ok 9 s ≡ true → record_lowest (with_serial f s) ≡ 0
unfolding record_lowest
new_fits f s h k = zero_first _ _ h (fine _ 12 k)

of_record : (r : Record) → record_lowest r ≡ 0 → (figures_lowest top_distance top_pupil r.figures ≡ 0) × (text_ok 9 r.serial ≡ true)
unfolding record_lowest
of_record r h = let z = first_zero _ _ h in (z.0, holds _ 11 z.1)

ten_of : (z : ℕ) → by_ten z ≡ true → z % 10 ≡ 0
unfolding by_ten
ten_of z t = eqb-true (z % 10) 0 t

-- ---- what a line that was moved was

-- an old line that was moved
record Went (m s n : List ℕ) : Type 0 where
  pub figures : Figures
  pub read : read_of old_form false m ≡ Ok figures
  pub fits : figures_lowest top_distance top_pupil figures ≡ 0
  pub ten : by_ten figures.zoom ≡ true
  pub text : text_ok 9 s ≡ true
  pub line : n ≡ message_of text_form false (with_serial figures s)

went : (m s n : List ℕ) → forward m s ≡ Ok n → Went m s n
went m s n e = by (read_of old_form false m) refl where
  by : (a : Answer Figures) → read_of old_form false m ≡ a → Went m s n
  by (Err x) r = never (cc (sym (forward_refused m s r) ∙ e))
  by (Ok f) r =
      let k = sym (forward_read m s r) ∙ e in
      let z = read_fits m f r in
      told (text_ok 9 s)
      (λ y. record { figures = f; read = r; fits = z.0; ten = holds _ 10 z.1; text = y; line = accepted_is (sym k ∙ added_yes f s y) })
      (λ o. never (cc (sym (added_no f s o) ∙ k)))

-- a new line that was moved
record Came (m o : List ℕ) : Type 0 where
  pub contents : Record
  pub read : read_of text_form false m ≡ Ok contents
  pub fits : record_lowest contents ≡ 0
  pub ten : by_ten contents.figures.zoom ≡ true
  pub line : o ≡ message_of old_form false contents.figures

came : (m o : List ℕ) → back m ≡ Ok o → Came m o
came m o e = by (read_of text_form false m) refl where
  by : (a : Answer Record) → read_of text_form false m ≡ a → Came m o
  by (Err x) r = never (cc (sym (back_refused m r) ∙ e))
  by (Ok c) r =
      let k = sym (back_read m r) ∙ e in
      told (by_ten c.figures.zoom)
      (λ y. record { contents = c; read = r; fits = ((new_exactly m c).0 r).0; ten = y; line = accepted_is (sym k ∙ dropped_yes c.figures y) })
      (λ n. never (cc (sym (dropped_no c.figures n) ∙ k)))

-- ---- there and back

module _ (m s n : List ℕ) (e : forward m s ≡ Ok n) where
  abbrev w : Went m s n
  w = went m s n e

  abbrev f : Figures
  f = w.figures

  new_read : read_of text_form false n ≡ Ok (with_serial f s)
  new_read =
      ap (read_of text_form false) w.line
      ∙ reads_written text_form text_form_exact false (with_serial f s) (text_lowest (with_serial f s) ∙ new_fits f s w.fits w.text)

  returned : back n ≡ Ok (message_of old_form false f)
  returned = back_read n new_read ∙ dropped_yes f w.ten

  forward_bytes : (Minus m → ⊥) → n ≡ new_bytes m s
  forward_bytes k = w.line ∙ bytes_new f s (ten_of _ w.ten) ∙ ap (λ (l : List ℕ). new_bytes l s) (old_same m f w.read k)

  forward_bytes_plus : Minus m → n ≡ new_bytes (with_plus m) s
  forward_bytes_plus k = w.line ∙ bytes_new f s (ten_of _ w.ten) ∙ ap (λ (l : List ℕ). new_bytes l s) (old_plus m f w.read k)

  forward_back_plus : Minus m → back n ≡ Ok (with_plus m)
  forward_back_plus k = returned ∙ ap Ok (old_plus m f w.read k)

  forward_back : (back n ≡ Ok m) ↔ (Minus m → ⊥)
  forward_back = (
    λ k h. old_other m f w.read h (accepted_is (sym (forward_back_plus h) ∙ k)),
    λ k. returned ∙ ap Ok (old_same m f w.read k),
  )

  forward_reads : (g : Figures) → OldLine g m → read_of text_form false n ≡ Ok (with_serial g s)
  forward_reads g k = new_read ∙ ap (λ (x : Figures). Ok (with_serial x s)) (accepted_is (sym w.read ∙ (old_exactly m g).1 k))

module _ (m o : List ℕ) (e : back m ≡ Ok o) where
  abbrev c : Came m o
  c = came m o e

  abbrev r : Record
  r = c.contents

  abbrev g : Figures
  g = r.figures

  old_sendable : old_lowest g ≡ 0
  old_sendable = old_fits g (of_record r c.fits).0 c.ten

  old_read : read_of old_form false o ≡ Ok g
  old_read = ap (read_of old_form false) c.line ∙ reads_written old_form old_exact false g (old_lowest_lem g ∙ old_sendable)

  moved_on : forward o (serial_in m) ≡ Ok (message_of text_form false r)
  moved_on =
      ap (forward o) (serial_in_lem m r c.read) ∙ forward_read o r.serial old_read ∙ added_yes g r.serial (of_record r c.fits).1

  back_bytes : (Minus m → ⊥) → o ≡ old_bytes m
  back_bytes k = c.line ∙ bytes_old g r.serial ∙ ap old_bytes (new_same m r c.read k)

  back_bytes_plus : Minus m → o ≡ old_bytes (with_plus m)
  back_bytes_plus k = c.line ∙ bytes_old g r.serial ∙ ap old_bytes (new_plus m r c.read k)

  back_forward_plus : Minus m → forward o (serial_in m) ≡ Ok (with_plus m)
  back_forward_plus k = moved_on ∙ ap Ok (new_plus m r c.read k)

  back_forward : (forward o (serial_in m) ≡ Ok m) ↔ (Minus m → ⊥)
  back_forward = (
    λ k h. new_other m r c.read h (accepted_is (sym (back_forward_plus h) ∙ k)),
    λ k. moved_on ∙ ap Ok (new_same m r c.read k),
  )

  back_reads : (t : Record) → NewLine t m → OldLine t.figures o
  back_reads t k =
      (old_exactly o t.figures).0 (old_read ∙ ap (λ (x : Record). Ok x.figures) (accepted_is (sym c.read ∙ (new_exactly m t).1 k)))

-- ---- the refusals

old_when : (m : List ℕ) (x : Refusal) → (read_of old_form false m ≡ Err x) ↔ ReadWhen old_lowest (spellings old_form) old_places old_line_length false m x
old_when = (refuses old_form old_lowest Field old_length old_places old_blames old_lowest_lem old_width).read_when false

new_when : (m : List ℕ) (x : Refusal) → (read_of text_form false m ≡ Err x) ↔ ReadWhen record_lowest (spellings text_form) text_places new_line_length false m x
new_when = (refuses text_form record_lowest Field text_length text_places text_form_blames text_lowest text_form_width).read_when false

forward_refuses : (m s : List ℕ) (x : Refusal) → (forward m s ≡ Err x) ↔ ForwardWhen m s x
forward_refuses m s x = (λ e. by e (read_of old_form false m) refl, given) where
  by : forward m s ≡ Err x → (a : Answer Figures) → read_of old_form false m ≡ a → ForwardWhen m s x
  by e (Err y) r = inl ((old_when m x).0 (r ∙ ap Err (refused_is (sym (forward_refused m s r) ∙ e))))
  by e (Ok f) r =
      let k = sym (forward_read m s r) ∙ e in
      told (text_ok 9 s)
      (λ y. never (cc (sym (added_yes f s y) ∙ k)))
      (λ o. inr (f, (old_exactly m f).0 r, o, refused_is (sym k ∙ added_no f s o)))

  given : ForwardWhen m s x → forward m s ≡ Err x
  given (inl k) = forward_refused m s ((old_when m x).1 k)
  given (inr (f, k, o, q)) = forward_read m s ((old_exactly m f).1 k) ∙ added_no f s o ∙ ap Err (sym q)

back_refuses : (m : List ℕ) (x : Refusal) → (back m ≡ Err x) ↔ BackWhen m x
unfolding by_ten
back_refuses m x = (λ e. by e (read_of text_form false m) refl, given) where
  by : back m ≡ Err x → (a : Answer Record) → read_of text_form false m ≡ a → BackWhen m x
  by e (Err y) r = inl ((new_when m x).0 (r ∙ ap Err (refused_is (sym (back_refused m r) ∙ e))))
  by e (Ok c) r =
      let k = sym (back_read m r) ∙ e in
      told (by_ten c.figures.zoom)
      (λ y. never (cc (sym (dropped_yes c.figures y) ∙ k)))
      (λ n. inr (c, (new_exactly m c).0 r, (λ z. never (cc (sym (eq-eqb (c.figures.zoom % 10) 0 z) ∙ n))), refused_is (sym k ∙ dropped_no c.figures n)))

  given : BackWhen m x → back m ≡ Err x
  given (inl k) = back_refused m ((new_when m x).1 k)
  given (inr (c, k, z, q)) = back_read m ((new_exactly m c).1 k) ∙ dropped_no c.figures (ne_eqb _ 0 z) ∙ ap Err (sym q)

forward_never_5 : (m s : List ℕ) → forward m s ≢ Err Checksum
forward_never_5 m s e = by ((forward_refuses m s Checksum).0 e) where
  by : ForwardWhen m s Checksum → ⊥
  by (inl k) = never (cc k.0)
  by (inr (f, k, o, q)) = never (cc q)

back_never_5 : (m : List ℕ) → back m ≢ Err Checksum
back_never_5 m e = by ((back_refuses m Checksum).0 e) where
  by : BackWhen m Checksum → ⊥
  by (inl k) = never (cc k.0)
  by (inr (c, k, z, q)) = never (cc q)

-- ---- in lent memory

-- each line has its length
forward_long : (m s l : List ℕ) → forward m s ≡ Ok l → length l ≡ new_line_length
forward_long m s l e =
    let v = went m s l e in
    let made = with_serial v.figures s in
    ap length v.line ∙ framed_long false text_length (text_form.print made) (record_long made (text_long 9 s v.text))

back_long : (m l : List ℕ) → back m ≡ Ok l → length l ≡ old_line_length
back_long m l e =
    let v = came m l e in
    let figures = v.contents.figures in
    ap length v.line ∙ framed_long false old_length (old_form.print figures) (old_long figures)

-- ---- all of it

pub promised : Promised
promised = record {
  old_rule = old_rule;
  old_exactly = old_exactly;
  old_long = λ m f k. messages_long old_form old_exact false m f (old_lowest_lem f ∙ k.0) k.1 ∙ ap (λ (n : ℕ). n + 2) old_width;
  old_zero = old_zero;
  forward_bytes = forward_bytes;
  forward_bytes_plus = forward_bytes_plus;
  forward_reads = λ m s n f k e. forward_reads m s n e f k;
  back_bytes = back_bytes;
  back_bytes_plus = back_bytes_plus;
  back_reads = λ m o t k e. back_reads m o e t k;
  forward_back = forward_back;
  forward_back_plus = forward_back_plus;
  back_forward = back_forward;
  back_forward_plus = back_forward_plus;
  old_refused = old_refused;
  mixed_refused = mixed_refused;
  mixed_other = mixed_other;
  mixed_forward = λ checksum m s r h k e. forward_refused m s (mixed_old checksum m r h k e);
  forward_refuses = forward_refuses;
  back_refuses = back_refuses;
  forward_never_5 = forward_never_5;
  back_never_5 = back_never_5;
  forward_long = forward_long;
  back_long = back_long;
  forward_laid = λ m s out w after. laid new_line_length (forward m s) out (forward_long m s);
  back_laid = λ m out w after. laid old_line_length (back m) out (back_long m);
}
