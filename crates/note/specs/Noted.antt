-- A record with a note behind the serial, before the checksum, for any form: field 14 is one field more.
use Rattle.std.specs.Prelude.{ℕ, ◌+◌, ◌-◌, Bool, ◌&&◌, List, [], ◌++◌, map, leb, eqb, length, Err, Ok}
use Rattle.refusal.specs.Answer.{Answer, unless}
use Rattle.refusal.specs.declared.Refusal.{Refusal}
use Rattle.refusal.specs.declared.Refusal.TheVariants.{Length}
use Rattle.codec.specs.Codec.{Codec, failing, passed, spellings, ◌⊗◌}
use Rattle.frame.specs.Frame.{framed, ending_width}
use Rattle.frame.specs.Message.{read_of, write_of, left_by}
use Rattle.note.specs.Note.{longest_note, note_ok}

-- field 14, a note of k bytes
abbrev pub note : ℕ → Codec (List ℕ)
note k = record {
  width = k;
  lowest = λ s. failing (eqb (length s) k && note_ok s) 14;
  print = λ s. s;
  also = λ s. [];
  parse = λ s. passed (note_ok s) 14 s;
}

-- contents with a note of k bytes behind them
abbrev pub noted : {A : Type 0} → Codec A → ℕ → Codec (A × List ℕ)
noted c k = c ⊗ note k

-- the messages of contents and a note: each spelling under its own checksum; the first is the writer's
abbrev pub noted_messages : {A : Type 0} → Codec A → Bool → A → List ℕ → List (List ℕ)
noted_messages c checksum a t = map (λ s. framed checksum (s ++ t)) (spellings c a)

-- ---- a reader

-- how many bytes a message has more than one with nothing appended
abbrev pub extra : ℕ → Bool → List ℕ → ℕ
extra w checksum m = length m - (w + ending_width checksum)

-- a reader of 0 to 60 bytes more: 3 outside that span, else as every reader
unfoldable pub read_noted : {A : Type 0} → Codec A → Bool → List ℕ → Answer (A × List ℕ)
read_noted c checksum m =
    let k = extra c.width checksum m in
    unless (leb k longest_note) (Length (length m)) (read_of (noted c k) checksum m)

-- what it answers without the note
unfoldable pub contents_of : {A : Type 0} → Answer (A × List ℕ) → Answer A
contents_of (Ok p) = Ok p.0
contents_of (Err r) = Err r

abbrev pub read_contents : {A : Type 0} → Codec A → Bool → List ℕ → Answer A
read_contents c checksum m = contents_of (read_noted c checksum m)

-- where the note starts, and how long it is, by the reader's answer: a refused message's is empty, at its start
abbrev pub note_at : {A : Type 0} → ℕ → Answer (A × List ℕ) → ℕ
note_at w (Ok p) = w
note_at w (Err r) = 0

abbrev pub note_length : {A : Type 0} → Answer (A × List ℕ) → ℕ
note_length (Ok p) = length p.1
note_length (Err r) = 0

-- ---- a writer: the lowest field out of range, then 14 for the note, then 2

abbrev pub write_noted : {A : Type 0} → Codec A → (ℕ → Refusal) → Bool → A → List ℕ → List ℕ → Answer ℕ
write_noted c low checksum a t out = write_of (noted c (length t)) low checksum (a, t) out

abbrev pub left_noted : {A : Type 0} → Codec A → (ℕ → Refusal) → Bool → A → List ℕ → List ℕ → List ℕ
left_noted c low checksum a t out = left_by (noted c (length t)) low checksum (a, t) out
