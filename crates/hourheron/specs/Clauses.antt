-- What each public function promises: its answer, and what lent memory holds after it.
use Rattle.std.specs.Prelude.{ℕ, Bool, List, ◌≡◌, ℤ, Ok}
use Rattle.laws.specs.Gives.{Gives}
use Rattle.refusal.specs.declared.Refusal.TheVariants.{Field, Setting}
use Rattle.frame.specs.Message.{read_of}
use Rattle.record.specs.Forms.{text_form, packed_form}
use Rattle.fixed.specs.Form.{fixed_form}
use Rattle.nreader.specs.Reader.{owner_at, owner_length}
use Rattle.units.specs.Units.{conversion}
use Rattle.archive.specs.Archive.{old_line_length, new_line_length, forward, back}
use Rattle.transfer.specs.Transfer.{turned, turned_length}
use Rattle.line.specs.declared.Line.{Line}
use Rattle.collector.specs.Collect.{line_after, collected}
use Rattle.collector.specs.declared.Collected.{Collected}
use Rattle.cutter.specs.Cutter.{whole_in, whole_left}
use Rattle.cutter.specs.declared.Cutter.{Cutter}
use Rattle.recorder.specs.Recorder.{first_setup, start_of, hands_out, send_of}
use Rattle.recorder.specs.declared.Recorder.{Recorder}
use Rattle.layout.specs.Layout.{record_bytes, record_width, fixed_bytes, fixed_width}
use Rattle.hourheron.specs.Host.{answer_of, conversion_of, checksum_of, Writes, record_from, fixed_from, Lays, asked_of}
use Rattle.hourheron.specs.Cuts.{Cuts, CutsRead}
use Rattle.hourheron.specs.Takes.{send_to, Takes}
use Rattle.hourheron.specs.declared.Conversion.{Conversion}
use Rattle.hourheron.specs.declared.Answer.{Answer}
use Rattle.hourheron.specs.declared.CutValue.{CutValue}
use Rattle.hourheron.specs.declared.SendValue.{SendValue}
use Rattle.hourheron.specs.declared.TakeValue.{TakeValue}

abbrev pub HeronConvert : ℕ → ℤ → ℕ → ℕ → Conversion → Type 0
HeronConvert field number unit wanted r = r ≡ conversion_of (conversion field number unit wanted)

abbrev pub HeronChecksum : List ℕ → Answer → Type 0
HeronChecksum bytes r = r ≡ answer_of (Ok (checksum_of bytes))

abbrev pub HeronWriteText : ℕ → ℕ → ℕ → ℕ → ℕ → ℕ → ℕ → ℕ → ℕ → ℤ → ℕ → List ℕ → Bool → List ℕ → Answer → List ℕ → Type 0
HeronWriteText focus aperture stop tenth focal hyperfocal near far view pupil zoom serial checksum out r after =
    Writes text_form Field checksum (record_from focus aperture stop tenth focal hyperfocal near far view pupil zoom serial) out r after

abbrev pub HeronWritePacked : ℕ → ℕ → ℕ → ℕ → ℕ → ℕ → ℕ → ℕ → ℕ → ℤ → ℕ → List ℕ → Bool → List ℕ → Answer → List ℕ → Type 0
HeronWritePacked focus aperture stop tenth focal hyperfocal near far view pupil zoom serial checksum out r after =
    Writes packed_form Field checksum (record_from focus aperture stop tenth focal hyperfocal near far view pupil zoom serial) out r after

abbrev pub HeronReadText : List ℕ → Bool → List ℕ → Answer → List ℕ → Type 0
HeronReadText message checksum out r after = Lays record_bytes record_width (read_of text_form checksum message) out r after

abbrev pub HeronReadPacked : List ℕ → Bool → List ℕ → Answer → List ℕ → Type 0
HeronReadPacked message checksum out r after = Lays record_bytes record_width (read_of packed_form checksum message) out r after

abbrev pub HeronOldToNew : List ℕ → List ℕ → List ℕ → Answer → List ℕ → Type 0
HeronOldToNew message serial out r after = Lays (λ l. l) new_line_length (forward message serial) out r after

abbrev pub HeronNewToOld : List ℕ → List ℕ → Answer → List ℕ → Type 0
HeronNewToOld message out r after = Lays (λ l. l) old_line_length (back message) out r after

abbrev pub HeronPackedToText : List ℕ → Bool → List ℕ → Answer → List ℕ → Type 0
HeronPackedToText message checksum out r after = Lays (λ l. l) (turned_length checksum) (turned checksum message) out r after

abbrev pub HeronPackedToTextByRecord : List ℕ → Bool → List ℕ → Answer → List ℕ → Type 0
HeronPackedToTextByRecord message checksum out r after = Lays (λ l. l) (turned_length checksum) (turned checksum message) out r after

abbrev pub HeronWriteFixed : List ℕ → List ℕ → ℕ → ℕ → ℕ → ℕ → ℕ → List ℕ → Bool → List ℕ → Answer → List ℕ → Type 0
HeronWriteFixed serial owner kind focal maximum letter transmission version checksum out r after =
    Writes fixed_form Setting checksum (fixed_from serial owner kind focal maximum letter transmission version) out r after

abbrev pub HeronReadFixed : List ℕ → Bool → List ℕ → Answer → List ℕ → Type 0
HeronReadFixed message checksum out r after = Lays fixed_bytes fixed_width (read_of fixed_form checksum message) out r after

abbrev pub HeronOwnerStart : List ℕ → Bool → Answer → Type 0
HeronOwnerStart message checksum r = r ≡ answer_of (asked_of owner_at (read_of fixed_form checksum message))

abbrev pub HeronOwnerLen : List ℕ → Bool → Answer → Type 0
HeronOwnerLen message checksum r = r ≡ answer_of (asked_of owner_length (read_of fixed_form checksum message))

abbrev pub HeronCollect : Line → ℕ → Collected → Line → Type 0
HeronCollect line byte r after = Gives (collected line byte) (line_after line byte) r after

abbrev pub HeronCutTextValue : Cutter → List ℕ → Bool → List ℕ → CutValue → List ℕ → Type 0
HeronCutTextValue cutter piece checksum out r after = CutsRead record_bytes record_width (read_of text_form checksum) cutter piece out r after

abbrev pub HeronCutPackedValue : Cutter → List ℕ → Bool → List ℕ → CutValue → List ℕ → Type 0
HeronCutPackedValue cutter piece checksum out r after = CutsRead record_bytes record_width (read_of packed_form checksum) cutter piece out r after

abbrev pub HeronCutFixedValue : Cutter → List ℕ → Bool → List ℕ → CutValue → List ℕ → Type 0
HeronCutFixedValue cutter piece checksum out r after = CutsRead fixed_bytes fixed_width (read_of fixed_form checksum) cutter piece out r after

abbrev pub HeronCutMessageValue : Cutter → List ℕ → List ℕ → CutValue → List ℕ → Type 0
HeronCutMessageValue cutter piece out r after = Cuts (whole_in out) whole_left cutter piece out r after

abbrev pub HeronRecorderFirst : Recorder → Type 0
HeronRecorderFirst r = r ≡ start_of first_setup

abbrev pub HeronRecorderStart : Bool → Bool → Recorder → Type 0
HeronRecorderStart packed checksum r = r ≡ start_of (record { packed = packed; checksum = checksum })

abbrev pub HeronRecorderSendValue : Recorder → List ℕ → SendValue → List ℕ → Type 0
HeronRecorderSendValue recorder out r after = Gives (send_to (send_of recorder out)) (whole_left (hands_out recorder) out) r after

abbrev pub HeronRecorderTakeValue : Recorder → List ℕ → List ℕ → TakeValue → List ℕ → Type 0
HeronRecorderTakeValue recorder piece out r after = Takes recorder piece out r after
