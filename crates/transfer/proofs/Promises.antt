-- Request [7]'s sentences, proved: what is read of a packed message decides, and what is read may be sent. Assumes nothing.
use Prim.Native.Nat.{ℕ}
use mathlib.Core.Bool.{Bool}
use mathlib.Core.List.{List}
use mathlib.Core.Logic.{◌↔◌, ◌≢◌, inr}
use mathlib.Core.Path.{◌≡◌, refl, sym, ap, ◌∙◌}
use lib.ListN.{length, take}
use lib.Seq.{take_at}
use Rattle.std.specs.Prelude.{Err, Ok}
use Rattle.laws.specs.Member.{◌∈◌}
use Rattle.laws.proofs.OneAnswer.{one_outcome}
use Rattle.laws.proofs.Tests.{never}
use Rattle.refusal.specs.Answer.{Answer}
use Rattle.refusal.proofs.Answers.{accepted_is, refused_is}
use Rattle.refusal.specs.declared.Refusal.{Refusal}
use Rattle.codec.specs.Codec.{spellings}
use Rattle.codec.specs.Places.{field_of}
use Rattle.frame.specs.Frame.{ending}
use Rattle.frame.specs.Message.{read_of, message_of, messages_of}
use Rattle.frame.specs.Refuses.{ReadWhen}
use Rattle.frame.proofs.Exactly.{framed_long}
use Rattle.frame.proofs.Laid.{laid}
use Rattle.pupil.specs.Pupil.{plus_text, minus_text, minus_packed}
use Rattle.record.specs.Record.{record_lowest}
use Rattle.record.specs.Forms.{text_form, text_length, packed_form}
use Rattle.record.specs.Places.{text_places, packed_places}
use Rattle.record.specs.declared.Record.{Record}
use Rattle.record.proofs.Exact.{text_form_blames, text_form_width}
use Rattle.demand2.proofs.Proved.{demand2}
use Rattle.packed_reader.specs.Clauses.{ReadPacked}
use Rattle.transfer.specs.Transfer.{turned, turned_length}
use Rattle.transfer.specs.Clauses.{PackedToText}
use Rattle.transfer.specs.Promises.{ThenWritten, Promised}
use Rattle.packed_bytes.proofs.Right.{says}
use Rattle.transfer.proofs.Turned.{long_is, turned_refused, turned_read, read_fits, refusal_is, written, unwritten, text_long}

-- a message that was turned: the record that was read, and its text
record Went (checksum : Bool) (m l : List ℕ) : Type 0 where
  pub contents : Record
  pub read : read_of packed_form checksum m ≡ Ok contents
  pub fits : record_lowest contents ≡ 0
  pub line : l ≡ message_of text_form checksum contents

module _ (checksum : Bool) (m : List ℕ) where
  went : (l : List ℕ) → turned checksum m ≡ Ok l → Went checksum m l
  went l e = by (read_of packed_form checksum m) refl where
    by : (a : Answer Record) → read_of packed_form checksum m ≡ a → Went checksum m l
    by (Err x) r = never (cc (sym (turned_refused checksum m r) ∙ e))
    by (Ok c) r = record { contents = c; read = r; fits = read_fits checksum m c r; line = accepted_is (sym e ∙ turned_read checksum m r) }

  turns : (l : List ℕ) → (turned checksum m ≡ Ok l) ↔ ((r : Record) × (record_lowest r ≡ 0) × (m ∈ messages_of packed_form checksum r) × (l ≡ message_of text_form checksum r))
  turns l = (
    λ e. let w = went l e in (w.contents, w.fits, ((demand2.packed.exactly checksum m w.contents).0 w.read).1, w.line),
    λ (r, h, k, q). turned_read checksum m ((demand2.packed.exactly checksum m r).1 (h, k)) ∙ ap Ok (sym q),
  )

  reads_same : (l : List ℕ) → turned checksum m ≡ Ok l → read_of text_form checksum l ≡ read_of packed_form checksum m
  reads_same l e =
      let w = went l e in
      ap (read_of text_form checksum) w.line ∙ demand2.text.reads_written checksum w.contents w.fits ∙ sym w.read

  when : (x : Refusal) → (turned checksum m ≡ Err x) ↔ ReadWhen record_lowest (spellings packed_form) packed_places 41 checksum m x
  when x = (
    λ e. by e (read_of packed_form checksum m) refl,
    λ k. turned_refused checksum m ((demand2.packed_refuses.read_when checksum m x).1 k),
  ) where
    by : turned checksum m ≡ Err x → (a : Answer Record) → read_of packed_form checksum m ≡ a → ReadWhen record_lowest (spellings packed_form) packed_places 41 checksum m x
    by e (Err y) r = (demand2.packed_refuses.read_when checksum m x).0 (r ∙ ap Err (refused_is (sym (turned_refused checksum m r) ∙ e)))
    by e (Ok c) r = never (cc (sym (turned_read checksum m r) ∙ e))

  long : (l : List ℕ) → turned checksum m ≡ Ok l → length l ≡ turned_length checksum
  long l e =
      let w = went l e in
      ap length w.line ∙ framed_long checksum text_length (text_form.print w.contents) (text_long w.contents w.fits) ∙ long_is checksum

  -- the pupil's bytes in the text
  pupil_in_lem : (l : List ℕ) (e : turned checksum m ≡ Ok l) → field_of text_places 10 l ≡ field_of text_places 10 (text_form.print (went l e).contents)
  pupil_in_lem l e =
      let w = went l e in
      let s = text_form.print w.contents in
      text_form_blames.within l 10
      ∙ ap (field_of text_places 10)
      (ap (take text_form.width) w.line ∙ take_at s (ending checksum s) text_form.width (text_long w.contents w.fits ∙ sym text_form_width))

  comes_plus : (l : List ℕ) → turned checksum m ≡ Ok l → field_of packed_places 10 m ≡ minus_packed → field_of text_places 10 l ≡ plus_text
  comes_plus l e k =
      let w = went l e in
      pupil_in_lem l e ∙ demand2.text_zero.sends_plus w.contents (demand2.packed_zero.reads_zero checksum m w.contents w.read k)

  never_minus : (l : List ℕ) → turned checksum m ≡ Ok l → field_of text_places 10 l ≢ minus_text
  never_minus l e k =
      let w = went l e in
      demand2.text_zero.never_minus w.contents w.fits (sym (pupil_in_lem l e) ∙ k)

  -- by what the reader answered
  then_written : (out : List ℕ) (read : Answer Record) (w : Answer ℕ) (after : List ℕ) → ReadPacked m checksum read → PackedToText m checksum out w after ↔ ThenWritten read checksum out w after
  then_written out read w after q = by (read_of packed_form checksum m) refl where
    by : (a : Answer Record) → read_of packed_form checksum m ≡ a → PackedToText m checksum out w after ↔ ThenWritten read checksum out w after
    by (Err x) r =
        let s : read ≡ Err x = q ∙ r in
        rw (turned_refused checksum m r, s) (refusal_is (turned_length checksum) x out)
    by (Ok c) r =
        let s : read ≡ Ok c = q ∙ r in
        let fits = read_fits checksum m c r in
        rw (turned_read checksum m r, s) (unwritten checksum c out fits, written checksum c out fits)

pub promised : Promised
promised = record {
  turns = turns;
  reads_same = reads_same;
  routes_agree = λ m checksum out w w' after after' p q. one_outcome p q;
  straight_reads_and_writes = λ m checksum out read w after. then_written checksum m out read w after;
  record_reads_and_writes = λ m checksum out read w after. then_written checksum m out read w after;
  says = says;
  as_the_writer = λ r checksum out w w' after after' p q. one_outcome p q;
  minus_turns = λ checksum r h z. turned_read checksum _ ((demand2.packed_zero.accepts checksum _ r).1 (h, inr (z, refl)));
  comes_plus = comes_plus;
  never_minus = never_minus;
  refuses = when;
  long = long;
  straight_laid = λ m checksum out w after. laid (turned_length checksum) (turned checksum m) out (long checksum m);
  record_laid = λ m checksum out w after. laid (turned_length checksum) (turned checksum m) out (long checksum m);
}
