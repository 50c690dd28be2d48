-- Request [7]'s sentences, of both routes from packed to text. Statements only: proofs/Promises.antt proves each.
use Rattle.std.specs.Prelude.{ℕ, Bool, List, ◌↔◌, ◌≢◌, ◌≡◌, pos, length, take, Err, Ok}
use Rattle.laws.specs.Member.{◌∈◌}
use Rattle.laws.specs.Over.{over}
use Rattle.refusal.specs.Answer.{Answer}
use Rattle.refusal.specs.declared.Refusal.{Refusal}
use Rattle.codec.specs.Codec.{spellings}
use Rattle.codec.specs.Places.{field_of}
use Rattle.frame.specs.Frame.{framed}
use Rattle.frame.specs.Laid.{Laid}
use Rattle.frame.specs.Message.{read_of, message_of, messages_of}
use Rattle.frame.specs.Refuses.{ReadWhen}
use Rattle.pupil.specs.Pupil.{plus_text, minus_text, minus_packed}
use Rattle.record.specs.Record.{record_lowest}
use Rattle.record.specs.Forms.{text_form, packed_form, packed_length, pupil_of}
use Rattle.record.specs.Places.{text_places, packed_places}
use Rattle.record.specs.declared.Record.{Record}
use Rattle.text_writer.specs.Clauses.{WriteText}
use Rattle.packed_reader.specs.Clauses.{ReadPacked}
use Rattle.packed_bytes.specs.Bytes.{packed_record}
use Rattle.transfer.specs.Transfer.{turned, turned_length}
use Rattle.transfer.specs.Clauses.{ByRecord, PackedToText, RecordToText}

-- "Reading into a record and writing it again": what follows a reader's answer, the same refusal with nothing written, or a call of the writer
abbrev pub ThenWritten : Answer Record → Bool → List ℕ → Answer ℕ → List ℕ → Type 0
ThenWritten (Ok r) checksum out w after = WriteText r checksum out w after
ThenWritten (Err x) checksum out w after = (w ≡ Err x) × (after ≡ out)

pub record Promised : Type 0 where
  -- "turns a day of packed records into text lines", "one for both forms": what is turned is exactly a packed message of a record that may be sent, with
  -- 60 40 for a pupil at zero too, and what comes out is this record's text message under the same setting
  pub turns : (checksum : Bool) (m l : List ℕ) →
      (turned checksum m ≡ Ok l) ↔ ((r : Record) × (record_lowest r ≡ 0) × (m ∈ messages_of packed_form checksum r) × (l ≡ message_of text_form checksum r))
  -- so the text is read as the record that the packed message held
  pub reads_same : (checksum : Bool) (m l : List ℕ) → turned checksum m ≡ Ok l → read_of text_form checksum l ≡ read_of packed_form checksum m
  -- "Add a route that goes from packed bytes to text bytes directly, keep the plain route, and prove that they agree on every message, refusal and checksum
  -- setting": two calls, one of each, with one message, setting and lent memory, have one answer and leave the same bytes
  pub routes_agree : (m : List ℕ) (checksum : Bool) (out : List ℕ) (w w' : Answer ℕ) (after after' : List ℕ) →
      PackedToText m checksum out w after → ByRecord m checksum out w' after' → (w ≡ w') × (after ≡ after')
  -- and each does exactly what the reader of packed records and then the writer of text do
  pub straight_reads_and_writes : (m : List ℕ) (checksum : Bool) (out : List ℕ) (read : Answer Record) (w : Answer ℕ) (after : List ℕ) → ReadPacked m checksum read →
      PackedToText m checksum out w after ↔ ThenWritten read checksum out w after
  pub record_reads_and_writes : (m : List ℕ) (checksum : Bool) (out : List ℕ) (read : Answer Record) (w : Answer ℕ) (after : List ℕ) → ReadPacked m checksum read →
      ByRecord m checksum out w after ↔ ThenWritten read checksum out w after
  -- what the straight route takes its fields from: of a message that the reader accepts, the bytes say the record that it reads
  pub says : (checksum : Bool) (m : List ℕ) (r : Record) → read_of packed_form checksum m ≡ Ok r → packed_record (take packed_length m) ≡ r
  -- a host's record is written as the writer of text writes it: two calls, one of each, have one answer and leave the same bytes
  pub as_the_writer : (r : Record) (checksum : Bool) (out : List ℕ) (w w' : Answer ℕ) (after after' : List ℕ) →
      RecordToText r checksum out w after → WriteText r checksum out w' after' → (w ≡ w') × (after ≡ after')
  -- "60 40 comes out +000": it is turned like 40 40,
  pub minus_turns : (checksum : Bool) (r : Record) → record_lowest r ≡ 0 → pupil_of r ≡ pos 0 →
      turned checksum (framed checksum (over (packed_form.print r) 25 minus_packed)) ≡ Ok (message_of text_form checksum r)
  -- with +000 in its place, and no -000 comes out
  pub comes_plus : (checksum : Bool) (m l : List ℕ) → turned checksum m ≡ Ok l → field_of packed_places 10 m ≡ minus_packed → field_of text_places 10 l ≡ plus_text
  pub never_minus : (checksum : Bool) (m l : List ℕ) → turned checksum m ≡ Ok l → field_of text_places 10 l ≢ minus_text
  -- "Refusals: as the reader, then 2": 3, 4, 5 and 6 of the packed message, each exactly in its case,
  pub refuses : (checksum : Bool) (m : List ℕ) (x : Refusal) → (turned checksum m ≡ Err x) ↔ ReadWhen record_lowest (spellings packed_form) packed_places 41 checksum m x
  -- then 2, with 76 or 78; and what is left in lent memory, by either route
  pub long : (checksum : Bool) (m l : List ℕ) → turned checksum m ≡ Ok l → length l ≡ turned_length checksum
  pub straight_laid : (m : List ℕ) (checksum : Bool) (out : List ℕ) (w : Answer ℕ) (after : List ℕ) → PackedToText m checksum out w after →
      Laid (turned_length checksum) (turned checksum m) out w after
  pub record_laid : (m : List ℕ) (checksum : Bool) (out : List ℕ) (w : Answer ℕ) (after : List ℕ) → ByRecord m checksum out w after →
      Laid (turned_length checksum) (turned checksum m) out w after
