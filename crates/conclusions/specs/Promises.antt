-- What a C host may conclude from a call of each entry: of the relations that the entries' contracts name (Contracts.antt of crate hourheron). Statements only:
-- proofs/Promises.antt proves each. `rule` is 0 where contents are sendable; `low`, `plain` and `places` are as in demand 2.
use Rattle.std.specs.Prelude.{ℕ, ◌+◌, ◌*◌, ◌≤◌, ◌<◌, Bool, List, ◌++◌, ◌↔◌, ◌⊎◌, ◌≡◌, ℤ, pos, length, drop, Err, Ok}
use Rattle.laws.specs.Member.{◌∈◌}
use Rattle.refusal.specs.Answer.{Answer}
use Rattle.refusal.specs.Refusal.{number_of, value_of}
use Rattle.refusal.specs.declared.Refusal.{Refusal}
use Rattle.refusal.specs.declared.Refusal.TheVariants.{Field, Room, Setting}
use Rattle.codec.specs.Codec.{Codec, spellings}
use Rattle.codec.specs.Places.{Place}
use Rattle.frame.specs.Frame.{sum_of}
use Rattle.frame.specs.Message.{message_of, messages_of}
use Rattle.frame.specs.Refuses.{length_by, ReadWhen, WriteWhen}
use Rattle.record.specs.Forms.{text_form, packed_form}
use Rattle.record.specs.Places.{text_places, packed_places}
use Rattle.record.specs.Record.{record_lowest}
use Rattle.record.specs.declared.Record.{Record}
use Rattle.fixed.specs.Fixed.{fixed_lowest}
use Rattle.fixed.specs.Form.{fixed_form}
use Rattle.fixed.specs.Places.{fixed_places}
use Rattle.fixed.specs.declared.Fixed.{Fixed}
use Rattle.nreader.specs.Reader.{owner_at, owner_length}
use Rattle.units.specs.Units.{Converts}
use Rattle.units.specs.Refuses.{ConvertWhen}
use Rattle.archive.specs.Archive.{old_line_length, new_line_length, forward, back}
use Rattle.transfer.specs.Transfer.{turned, turned_length}
use Rattle.line.specs.declared.Line.{Line}
use Rattle.collector.specs.Collect.{line_after, collected}
use Rattle.collector.specs.declared.Collected.{Collected}
use Rattle.cutter.specs.declared.Cutter.{Cutter}
use Rattle.recorder.specs.Recorder.{first_setup, start_of}
use Rattle.recorder.specs.declared.Recorder.{Recorder}
use Rattle.layout.specs.Layout.{record_bytes, record_width, fixed_bytes, fixed_width}
use Rattle.layout.specs.Unpack.{unpack_record, unpack_fixed}
use Rattle.hourheron.specs.Host.{answer_of, conversion_of}
use Rattle.hourheron.specs.Clauses.{HeronConvert, HeronChecksum, HeronWriteText, HeronWritePacked, HeronReadText, HeronReadPacked, HeronOldToNew, HeronNewToOld, HeronPackedToText, HeronPackedToTextByRecord, HeronWriteFixed, HeronReadFixed, HeronOwnerStart, HeronOwnerLen, HeronCollect, HeronCutTextValue, HeronCutPackedValue, HeronCutFixedValue, HeronCutMessageValue, HeronRecorderFirst, HeronRecorderStart, HeronRecorderSendValue, HeronRecorderTakeValue}
use Rattle.conclusions.specs.Stream.{CutReader, HandsMessage, SendCall, TakeCall}
use Rattle.hourheron.specs.declared.Conversion.{Conversion}
use Rattle.hourheron.specs.declared.Answer as host
use Rattle.hourheron.specs.declared.CutValue.{CutValue}
use Rattle.hourheron.specs.declared.SendValue.{SendValue}
use Rattle.hourheron.specs.declared.TakeValue.{TakeValue}

-- ---- the answers

-- how an answer is handed over tells it: the number is 0 exactly where it is done, and no two answers are handed over alike
pub record TellsApart {A R : Type 0} (handed : Answer A → R) (number : R → ℕ) : Type 0 where
  pub done : (a : Answer A) → (number (handed a) ≡ 0) ↔ ((x : A) × (a ≡ Ok x))
  pub apart : (a b : Answer A) → handed a ≡ handed b → a ≡ b

-- done, with n
abbrev pub DoneWith : ℕ → host.Answer → Type 0
DoneWith n r = (r.number ≡ 0) × (r.value ≡ n)

-- the number of document 01's table, with what is also returned
abbrev pub IsRefused : Refusal → host.Answer → Type 0
IsRefused x r = (r.number ≡ number_of x) × (r.value ≡ value_of x)

-- ---- the readers

-- what one call of a reader says: m is the message, out the lent memory, r the answer, and after what is left
pub record Reads {A : Type 0} (form : Codec A) (rule : A → ℕ) (plain : ℕ) (places : List Place) (bytes : A → List ℕ) (width : ℕ) (unpack : List ℕ → A)
    (checksum : Bool) (m out : List ℕ) (r : host.Answer) (after : List ℕ) : Type 0 where
  -- 0 comes with the count, and only for a spelling of sendable contents: they are laid, and the bytes past them are unchanged
  pub done : r.number ≡ 0 → (r.value ≡ width) × ((a : A) × (rule a ≡ 0) × (m ∈ messages_of form checksum a) × (after ≡ bytes a ++ drop width out))
  -- with room enough: 0 with these bytes exactly where the message is a spelling of these contents,
  pub gives_back : (a : A) → rule a ≡ 0 → width ≤ length out → ((r.number ≡ 0) × (after ≡ bytes a ++ drop width out)) ↔ (m ∈ messages_of form checksum a)
  -- and 0 with these contents unpacked
  pub unpacks : (a : A) → rule a ≡ 0 → width ≤ length out → ((r.number ≡ 0) × (unpack after ≡ a)) ↔ (m ∈ messages_of form checksum a)
  -- "Readers check 3, 4, 5, 6, an exported one then 2": each exactly in its case, and 2, with the bytes that are needed, only for such a spelling
  pub refuses : (x : Refusal) → IsRefused x r ↔ (ReadWhen rule (spellings form) places plain checksum m x ⊎
      ((x ≡ Room width) × (length out < width) × ((a : A) × (rule a ≡ 0) × (m ∈ messages_of form checksum a))))
  -- refusals write nothing
  pub refused_same : (r.number ≡ 0 → ⊥) → after ≡ out

-- every call of an exported reader
abbrev pub Reader : {A : Type 0} → (List ℕ → Bool → List ℕ → host.Answer → List ℕ → Type 0) → Codec A → (A → ℕ) → ℕ → List Place → (A → List ℕ) → ℕ →
    (List ℕ → A) → Type 0
Reader Read form rule plain places bytes width unpack =
    (checksum : Bool) (m out : List ℕ) (r : host.Answer) (after : List ℕ) →
    Read m checksum out r after → Reads form rule plain places bytes width unpack checksum m out r after

-- ---- the writers

-- what one call of a writer says: a are the contents, out the lent memory, r the answer, and after what is left
pub record Written {A : Type 0} (form : Codec A) (rule : A → ℕ) (low : ℕ → Refusal) (plain : ℕ) (checksum : Bool) (a : A) (out : List ℕ)
    (r : host.Answer) (after : List ℕ) : Type 0 where
  -- 0 with the message's length, exactly where the contents are sendable and the message has room
  pub done : (n : ℕ) → DoneWith n r ↔ ((rule a ≡ 0) × (length_by checksum plain ≤ length out) × (n ≡ length_by checksum plain))
  -- then the message stands at the start, and the bytes past it are unchanged
  pub message : r.number ≡ 0 → after ≡ message_of form checksum a ++ drop r.value out
  -- "Writers check 1 or 8, then 2": each exactly in its case
  pub refuses : (x : Refusal) → IsRefused x r ↔ WriteWhen rule low plain checksum a out x
  -- refusals write nothing
  pub refused_same : (r.number ≡ 0 → ⊥) → after ≡ out

-- every call of an exported writer, by the contents whose fields or items are handed in
abbrev pub Writer : {A : Type 0} → (A → Bool → List ℕ → host.Answer → List ℕ → Type 0) → Codec A → (A → ℕ) → (ℕ → Refusal) → ℕ → Type 0
Writer {A} Write form rule low plain =
    (a : A) (checksum : Bool) (out : List ℕ) (r : host.Answer) (after : List ℕ) →
    Write a checksum out r after → Written form rule low plain checksum a out r after

-- the fields of a record, handed in one by one
abbrev pub fields_to : (ℕ → ℕ → ℕ → ℕ → ℕ → ℕ → ℕ → ℕ → ℕ → ℤ → ℕ → List ℕ → Bool → List ℕ → host.Answer → List ℕ → Type 0) →
    Record → Bool → List ℕ → host.Answer → List ℕ → Type 0
fields_to Write a =
    let f = a.figures in
    Write f.focus f.aperture f.stop f.tenth f.focal f.hyperfocal f.near f.far f.view f.pupil f.zoom a.serial

-- the items of fixed data, handed in one by one
abbrev pub items_to : (List ℕ → List ℕ → ℕ → ℕ → ℕ → ℕ → ℕ → List ℕ → Bool → List ℕ → host.Answer → List ℕ → Type 0) →
    Fixed → Bool → List ℕ → host.Answer → List ℕ → Type 0
items_to Write a =
    let l = a.lens in
    Write a.serial a.owner l.kind l.focal l.maximum l.letter l.transmission a.version

-- ---- old lines, and packed records as text

-- what one call that makes another line of a message says: line is the one of n bytes that it makes, or why it makes none
pub record Moved (n : ℕ) (line : Answer (List ℕ)) (out : List ℕ) (r : host.Answer) (after : List ℕ) : Type 0 where
  -- 0 with n, exactly where there is a line and room for it
  pub done : (k : ℕ) → DoneWith k r ↔ ((l : List ℕ) × (line ≡ Ok l) × (n ≤ length out) × (k ≡ n))
  -- then it stands at the start, and the bytes past it are unchanged
  pub lays : (l : List ℕ) → line ≡ Ok l → r.number ≡ 0 → after ≡ l ++ drop n out
  -- refused as the line is, then 2
  pub refuses : (x : Refusal) → IsRefused x r ↔ ((line ≡ Err x) ⊎ ((x ≡ Room n) × (length out < n) × ((l : List ℕ) × (line ≡ Ok l))))
  pub refused_same : (r.number ≡ 0 → ⊥) → after ≡ out

-- ---- the other entries

-- what one call of the conversion says
pub record Converted (field : ℕ) (z : ℤ) (unit wanted : ℕ) (r : Conversion) : Type 0 where
  -- 0 with the number converted and no field; "alike: number unchanged"
  pub done : r.number ≡ 0 → Converts unit wanted z r.value × (unit ≡ wanted → r.value ≡ z) × (r.field ≡ 0)
  -- 1 exactly in its case, and "where no case holds, the entry does its work"
  pub refuses : (x : Refusal) → ((r.number ≡ number_of x) × (r.field ≡ value_of x)) ↔ ConvertWhen field z unit wanted x
  pub no_case : ((x : Refusal) → ConvertWhen field z unit wanted x → ⊥) → r.number ≡ 0
  -- refused, the value is zero
  pub refused_zero : (r.number ≡ 0 → ⊥) → r.value ≡ pos 0

-- what one question about the owner's part says: done exactly for a message of the N writer, with what is asked of its contents; else refused as it is
pub record Asked (part : Answer Fixed → ℕ) (m : List ℕ) (checksum : Bool) (r : host.Answer) : Type 0 where
  pub done : (n : ℕ) → DoneWith n r ↔
      ((f : Fixed) × (fixed_lowest f ≡ 0) × (m ≡ message_of fixed_form checksum f) × (n ≡ part (Ok f)))
  pub refuses : (x : Refusal) → IsRefused x r ↔ ReadWhen fixed_lowest (spellings fixed_form) fixed_places 67 checksum m x

-- ---- all entries

pub record Promised : Type 0 where
  pub answer : TellsApart answer_of (λ r. r.number)
  pub conversion : TellsApart conversion_of (λ r. r.number)
  pub read_text_lem : Reader HeronReadText text_form record_lowest 76 text_places record_bytes record_width unpack_record
  pub read_packed_lem : Reader HeronReadPacked packed_form record_lowest 41 packed_places record_bytes record_width unpack_record
  pub read_fixed_lem : Reader HeronReadFixed fixed_form fixed_lowest 67 fixed_places fixed_bytes fixed_width unpack_fixed
  pub write_text_lem : Writer (fields_to HeronWriteText) text_form record_lowest Field 76
  pub write_packed_lem : Writer (fields_to HeronWritePacked) packed_form record_lowest Field 41
  pub write_fixed_lem : Writer (items_to HeronWriteFixed) fixed_form fixed_lowest Setting 67
  -- (what these lines are is in crate `archive`)
  pub old_to_new_lem : (m s out : List ℕ) (r : host.Answer) (after : List ℕ) → HeronOldToNew m s out r after → Moved new_line_length (forward m s) out r after
  pub new_to_old_lem : (m out : List ℕ) (r : host.Answer) (after : List ℕ) → HeronNewToOld m out r after → Moved old_line_length (back m) out r after
  -- (and what a packed message is turned into is in crate `transfer`)
  pub packed_to_text_lem : (m : List ℕ) (checksum : Bool) (out : List ℕ) (r : host.Answer) (after : List ℕ) → HeronPackedToText m checksum out r after →
      Moved (turned_length checksum) (turned checksum m) out r after
  pub packed_to_text_by_record : (m : List ℕ) (checksum : Bool) (out : List ℕ) (r : host.Answer) (after : List ℕ) → HeronPackedToTextByRecord m checksum out r after →
      Moved (turned_length checksum) (turned checksum m) out r after
  pub routes_agree : (m : List ℕ) (checksum : Bool) (out : List ℕ) (r r' : host.Answer) (after after' : List ℕ) →
      HeronPackedToText m checksum out r after → HeronPackedToTextByRecord m checksum out r' after' → (r ≡ r') × (after ≡ after')
  pub convert : (field : ℕ) (z : ℤ) (unit wanted : ℕ) (r : Conversion) → HeronConvert field z unit wanted r → Converted field z unit wanted r
  pub checksum : (s : List ℕ) (r : host.Answer) → HeronChecksum s r → DoneWith ((sum_of s).high * 256 + (sum_of s).low) r
  pub owner_start : (m : List ℕ) (checksum : Bool) (r : host.Answer) → HeronOwnerStart m checksum r → Asked owner_at m checksum r
  pub owner_len : (m : List ℕ) (checksum : Bool) (r : host.Answer) → HeronOwnerLen m checksum r → Asked owner_length m checksum r
  -- (what these two promise is in crate `collector`)
  pub collect : (line : Line) (byte : ℕ) (r : Collected) (after : Line) → HeronCollect line byte r after →
      (r ≡ collected line byte) × (after ≡ line_after line byte)
  -- a stream in pieces, each message by the reader that is named, or handed out
  pub cut_text : CutReader HeronCutTextValue HeronReadText
  pub cut_packed : CutReader HeronCutPackedValue HeronReadPacked
  pub cut_fixed : CutReader HeronCutFixedValue HeronReadFixed
  pub cut_message : (c : Cutter) (p out : List ℕ) (r : CutValue) (after : List ℕ) → HeronCutMessageValue c p out r after → HandsMessage c p out r after
  -- the recorder
  pub recorder_first : (r : Recorder) → HeronRecorderFirst r → r ≡ start_of first_setup
  pub recorder_start : (packed checksum : Bool) (r : Recorder) → HeronRecorderStart packed checksum r →
      r ≡ start_of (record { packed = packed; checksum = checksum })
  pub recorder_send : (r : Recorder) (out : List ℕ) (v : SendValue) (after : List ℕ) → HeronRecorderSendValue r out v after → SendCall r out v after
  pub recorder_take : (r : Recorder) (p out : List ℕ) (v : TakeValue) (after : List ℕ) → HeronRecorderTakeValue r p out v after → TakeCall r p out v after
