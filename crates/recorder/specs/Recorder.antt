-- The recorder, by value: its settings, what it has to send, and what it makes of a message and of a piece.
use Rattle.std.specs.Prelude.{ℕ, Bool, true, false, cond, List, [], ◌∷◌, length, Option, None, Some, Err, Ok}
use Rattle.refusal.specs.Answer.{Answer, Verdict, is_accepted, unless}
use Rattle.refusal.specs.declared.Refusal.TheVariants.{State}
use Rattle.codec.specs.Codec.{Codec}
use Rattle.frame.specs.Message.{read_of}
use Rattle.record.specs.Forms.{text_form, packed_form}
use Rattle.record.specs.Record.{no_record}
use Rattle.record.specs.declared.Record.{Record}
use Rattle.fixed.specs.Fixed.{no_fixed}
use Rattle.fixed.specs.Form.{fixed_form}
use Rattle.fixed.specs.declared.Fixed as fixed
use Rattle.cutter.specs.Cutter.{fresh, valid_cutter, held_from, held_message, Said, invalid, nothing, ended, cut_of, then_read, whole_in}
use Rattle.cutter.specs.declared.Cutter.{Cutter}
use Rattle.recorder.specs.declared.Setup.{Setup}
use Rattle.recorder.specs.declared.Recorder.{Recorder}
use Rattle.recorder.specs.declared.HandedOut.{HandedOut}
use Rattle.recorder.specs.declared.Reading.{Reading}
use Rattle.recorder.specs.declared.Reading.TheVariants.{Fixed as as_fixed, Record as as_record}
use Rattle.recorder.specs.declared.Recorded.{Recorded}

-- "the settings a recorder starts with say off"
abbrev pub first_setup : Setup
first_setup = record { packed = false; checksum = false }

abbrev pub start_of : Setup → Recorder
start_of s = record { cutter = fresh; setup = s; sent = false; opened = false }

abbrev pub valid_recorder : Recorder → Bool
valid_recorder r = valid_cutter r.cutter

-- ---- what it has to send

-- N CR
abbrev pub asking : List ℕ
asking = 78 ∷ 13 ∷ []

-- after a start it has N CR to send, then nothing
unfoldable pub to_send : Recorder → List ℕ
to_send r = cond r.sent [] asking

-- 16 comes before all
unfoldable pub hands_out : Recorder → Answer (List ℕ)
hands_out r = unless (valid_recorder r) State (Ok (to_send r))

-- what was handed out is sent; a refusal changes nothing
unfoldable pub after_send : Answer ℕ → Recorder → Recorder
after_send (Ok n) r = record { cutter = r.cutter; setup = r.setup; sent = true; opened = r.opened }
after_send (Err x) r = r

unfoldable pub send_of : Recorder → List ℕ → HandedOut
send_of r out = record { wrote = (whole_in out (hands_out r)); recorder = after_send (whole_in out (hands_out r)) r }

-- ---- a message

abbrev pub form_of : Setup → Codec Record
form_of s = cond s.packed packed_form text_form

-- by the N reader, plain, until one is accepted; from then on by the record reader under its setting
unfoldable pub reading_of : Setup → Bool → Answer (List ℕ) → Reading
reading_of s opened m =
    cond opened
    (as_record (then_read (read_of (form_of s) s.checksum) m))
    (as_fixed (then_read (read_of fixed_form false) m))

-- a message accepted opens it, and it stays so
unfoldable pub opens_by : Bool → Reading → Bool
opens_by opened (as_fixed a) = is_accepted a
opens_by opened (as_record a) = opened

-- ---- a piece

-- the recorder with another cutter
abbrev pub cut_on : Recorder → Cutter → Bool → Recorder
cut_on r c opened = record { cutter = c; setup = r.setup; sent = r.sent; opened = opened }

-- by what the cutter says: "only 16 leaves the cutter as it was"
unfoldable pub take_by : Recorder → Said → ℕ → Cutter → Recorded
take_by r invalid used c = record { made = Err State; used = used; recorder = cut_on r c r.opened }
take_by r nothing used c = record { made = Ok None; used = used; recorder = cut_on r c r.opened }
take_by r (ended m) used c =
    let x = reading_of r.setup r.opened m in
    record { made = Ok (Some x); used = used; recorder = cut_on r c (opens_by r.opened x) }

unfoldable pub take_of : Recorder → List ℕ → Recorded
take_of r p = let t = cut_of r.cutter p in take_by r t.said t.used t.cutter

-- ---- what a call says: 16; nothing, for no message ended; or what was read

-- a message ended
unfoldable pub has_made : Answer (Option Reading) → Bool
has_made (Err x) = false
has_made (Ok None) = false
has_made (Ok (Some x)) = true

-- and was read as fixed data
unfoldable pub is_opening : Answer (Option Reading) → Bool
is_opening (Err x) = false
is_opening (Ok None) = false
is_opening (Ok (Some (as_fixed a))) = true
is_opening (Ok (Some (as_record a))) = false

-- done, or the refusal: of the call, or of the message by its reader
unfoldable pub verdict_in : Answer (Option Reading) → Verdict
verdict_in (Err x) = Err x
verdict_in (Ok None) = Ok tt
verdict_in (Ok (Some (as_fixed (Ok f)))) = Ok tt
verdict_in (Ok (Some (as_fixed (Err x)))) = Err x
verdict_in (Ok (Some (as_record (Ok a)))) = Ok tt
verdict_in (Ok (Some (as_record (Err x)))) = Err x

-- the fixed data that was read; zeros where none was
unfoldable pub items_in : Answer (Option Reading) → fixed.Fixed
items_in (Err x) = no_fixed
items_in (Ok None) = no_fixed
items_in (Ok (Some (as_fixed (Ok f)))) = f
items_in (Ok (Some (as_fixed (Err x)))) = no_fixed
items_in (Ok (Some (as_record a))) = no_fixed

-- the record that was read; zeros where none was
unfoldable pub fields_in : Answer (Option Reading) → Record
fields_in (Err x) = no_record
fields_in (Ok None) = no_record
fields_in (Ok (Some (as_fixed a))) = no_record
fields_in (Ok (Some (as_record (Ok a)))) = a
fields_in (Ok (Some (as_record (Err x)))) = no_record

-- ---- the parts of a call

-- the message that ends with this part, read as a record
unfoldable pub record_ending : Recorder → List ℕ → Answer Record
record_ending r part = then_read (read_of (form_of r.setup) r.setup.checksum) (held_message (held_from r.cutter part))

-- what is made of it
unfoldable pub reading_in : Recorder → List ℕ → Reading
reading_in r part = reading_of r.setup r.opened (held_message (held_from r.cutter part))

-- a piece in which no message ends
unfoldable pub hold_of : Recorder → List ℕ → Recorded
hold_of r p =
    cond (valid_recorder r)
    (record { made = Ok None; used = length p; recorder = cut_on r (held_from r.cutter p) r.opened })
    (record { made = Err State; used = 0; recorder = r })
