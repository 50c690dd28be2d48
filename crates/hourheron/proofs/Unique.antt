-- What each export promises leaves one answer, and one content of lent memory. Assumes nothing.
use Prim.Native.Nat.{ℕ}
use mathlib.Core.Bool.{Bool}
use mathlib.Core.List.{List}
use mathlib.Core.Path.{◌≡◌}
use lib.IntN.{ℤ}
use Rattle.laws.proofs.OneAnswer.{one_answer, one_outcome}
use Rattle.line.specs.declared.Line.{Line}
use Rattle.collector.specs.declared.Collected.{Collected}
use Rattle.cutter.specs.declared.Cutter.{Cutter}
use Rattle.recorder.specs.declared.Recorder.{Recorder}
use Rattle.hourheron.specs.Clauses.{HeronConvert, HeronChecksum, HeronWriteText, HeronWritePacked, HeronReadText, HeronReadPacked, HeronOldToNew, HeronNewToOld, HeronPackedToText, HeronPackedToTextByRecord, HeronWriteFixed, HeronReadFixed, HeronOwnerStart, HeronOwnerLen, HeronCollect, HeronCutTextValue, HeronCutPackedValue, HeronCutFixedValue, HeronCutMessageValue, HeronRecorderFirst, HeronRecorderStart, HeronRecorderSendValue, HeronRecorderTakeValue}
use Rattle.hourheron.specs.declared.Conversion.{Conversion}
use Rattle.hourheron.specs.declared.Answer.{Answer}
use Rattle.hourheron.specs.declared.CutValue.{CutValue}
use Rattle.hourheron.specs.declared.SendValue.{SendValue}
use Rattle.hourheron.specs.declared.TakeValue.{TakeValue}

-- ---- the writers

pub one_heron_write_text : (focus aperture stop tenth focal hyperfocal near far view : ℕ) (pupil : ℤ) (zoom : ℕ)
    (serial : List ℕ) (checksum : Bool) (out : List ℕ) {r r' : Answer} {after after' : List ℕ} →
    HeronWriteText focus aperture stop tenth focal hyperfocal near far view pupil zoom serial checksum out r after →
    HeronWriteText focus aperture stop tenth focal hyperfocal near far view pupil zoom serial checksum out r' after' → (r ≡ r') × (after ≡ after')
one_heron_write_text focus aperture stop tenth focal hyperfocal near far view pupil zoom serial checksum out = one_outcome

pub one_heron_write_packed : (focus aperture stop tenth focal hyperfocal near far view : ℕ) (pupil : ℤ) (zoom : ℕ)
    (serial : List ℕ) (checksum : Bool) (out : List ℕ) {r r' : Answer} {after after' : List ℕ} →
    HeronWritePacked focus aperture stop tenth focal hyperfocal near far view pupil zoom serial checksum out r after →
    HeronWritePacked focus aperture stop tenth focal hyperfocal near far view pupil zoom serial checksum out r' after' → (r ≡ r') × (after ≡ after')
one_heron_write_packed focus aperture stop tenth focal hyperfocal near far view pupil zoom serial checksum out = one_outcome

pub one_heron_write_fixed : (serial owner : List ℕ) (kind focal maximum letter transmission : ℕ) (version : List ℕ)
    (checksum : Bool) (out : List ℕ) {r r' : Answer} {after after' : List ℕ} →
    HeronWriteFixed serial owner kind focal maximum letter transmission version checksum out r after →
    HeronWriteFixed serial owner kind focal maximum letter transmission version checksum out r' after' → (r ≡ r') × (after ≡ after')
one_heron_write_fixed serial owner kind focal maximum letter transmission version checksum out = one_outcome

-- ---- the readers

pub one_heron_read_text : (message : List ℕ) (checksum : Bool) (out : List ℕ) {r r' : Answer} {after after' : List ℕ} →
    HeronReadText message checksum out r after → HeronReadText message checksum out r' after' → (r ≡ r') × (after ≡ after')
one_heron_read_text message checksum out = one_outcome

pub one_heron_read_packed : (message : List ℕ) (checksum : Bool) (out : List ℕ) {r r' : Answer} {after after' : List ℕ} →
    HeronReadPacked message checksum out r after → HeronReadPacked message checksum out r' after' → (r ≡ r') × (after ≡ after')
one_heron_read_packed message checksum out = one_outcome

pub one_heron_read_fixed : (message : List ℕ) (checksum : Bool) (out : List ℕ) {r r' : Answer} {after after' : List ℕ} →
    HeronReadFixed message checksum out r after → HeronReadFixed message checksum out r' after' → (r ≡ r') × (after ≡ after')
one_heron_read_fixed message checksum out = one_outcome

-- ---- old lines

pub one_heron_old_to_new : (message serial out : List ℕ) {r r' : Answer} {after after' : List ℕ} →
    HeronOldToNew message serial out r after → HeronOldToNew message serial out r' after' → (r ≡ r') × (after ≡ after')
one_heron_old_to_new message serial out = one_outcome

pub one_heron_new_to_old : (message out : List ℕ) {r r' : Answer} {after after' : List ℕ} →
    HeronNewToOld message out r after → HeronNewToOld message out r' after' → (r ≡ r') × (after ≡ after')
one_heron_new_to_old message out = one_outcome

pub one_heron_packed_to_text : (message : List ℕ) (checksum : Bool) (out : List ℕ) {r r' : Answer} {after after' : List ℕ} →
    HeronPackedToText message checksum out r after → HeronPackedToText message checksum out r' after' → (r ≡ r') × (after ≡ after')
one_heron_packed_to_text message checksum out = one_outcome

pub one_heron_packed_to_text_by_record : (message : List ℕ) (checksum : Bool) (out : List ℕ) {r r' : Answer} {after after' : List ℕ} →
    HeronPackedToTextByRecord message checksum out r after → HeronPackedToTextByRecord message checksum out r' after' → (r ≡ r') × (after ≡ after')
one_heron_packed_to_text_by_record message checksum out = one_outcome

-- ---- what writes nothing

pub one_heron_owner_start : (message : List ℕ) (checksum : Bool) {r r' : Answer} →
    HeronOwnerStart message checksum r → HeronOwnerStart message checksum r' → r ≡ r'
one_heron_owner_start message checksum = one_answer

pub one_heron_owner_len : (message : List ℕ) (checksum : Bool) {r r' : Answer} →
    HeronOwnerLen message checksum r → HeronOwnerLen message checksum r' → r ≡ r'
one_heron_owner_len message checksum = one_answer

pub one_heron_convert : (field : ℕ) (number : ℤ) (unit wanted : ℕ) {r r' : Conversion} →
    HeronConvert field number unit wanted r → HeronConvert field number unit wanted r' → r ≡ r'
one_heron_convert field number unit wanted = one_answer

pub one_heron_checksum : (bytes : List ℕ) {r r' : Answer} → HeronChecksum bytes r → HeronChecksum bytes r' → r ≡ r'
one_heron_checksum bytes = one_answer

-- ---- the line collector

pub one_heron_collect : (line : Line) (byte : ℕ) {r r' : Collected} {after after' : Line} →
    HeronCollect line byte r after → HeronCollect line byte r' after' → (r ≡ r') × (after ≡ after')
one_heron_collect line byte = one_outcome

-- ---- the cutter

pub one_heron_cut_text_value : (cutter : Cutter) (piece : List ℕ) (checksum : Bool) (out : List ℕ) {r r' : CutValue} {after after' : List ℕ} →
    HeronCutTextValue cutter piece checksum out r after → HeronCutTextValue cutter piece checksum out r' after' → (r ≡ r') × (after ≡ after')
one_heron_cut_text_value cutter piece checksum out = one_outcome

pub one_heron_cut_packed_value : (cutter : Cutter) (piece : List ℕ) (checksum : Bool) (out : List ℕ) {r r' : CutValue} {after after' : List ℕ} →
    HeronCutPackedValue cutter piece checksum out r after → HeronCutPackedValue cutter piece checksum out r' after' → (r ≡ r') × (after ≡ after')
one_heron_cut_packed_value cutter piece checksum out = one_outcome

pub one_heron_cut_fixed_value : (cutter : Cutter) (piece : List ℕ) (checksum : Bool) (out : List ℕ) {r r' : CutValue} {after after' : List ℕ} →
    HeronCutFixedValue cutter piece checksum out r after → HeronCutFixedValue cutter piece checksum out r' after' → (r ≡ r') × (after ≡ after')
one_heron_cut_fixed_value cutter piece checksum out = one_outcome

pub one_heron_cut_message_value : (cutter : Cutter) (piece out : List ℕ) {r r' : CutValue} {after after' : List ℕ} →
    HeronCutMessageValue cutter piece out r after → HeronCutMessageValue cutter piece out r' after' → (r ≡ r') × (after ≡ after')
one_heron_cut_message_value cutter piece out = one_outcome

-- ---- the recorder

pub one_heron_recorder_first : {r r' : Recorder} → HeronRecorderFirst r → HeronRecorderFirst r' → r ≡ r'
one_heron_recorder_first = one_answer

pub one_heron_recorder_start : (packed checksum : Bool) {r r' : Recorder} →
    HeronRecorderStart packed checksum r → HeronRecorderStart packed checksum r' → r ≡ r'
one_heron_recorder_start packed checksum = one_answer

pub one_heron_recorder_send_value : (recorder : Recorder) (out : List ℕ) {r r' : SendValue} {after after' : List ℕ} →
    HeronRecorderSendValue recorder out r after → HeronRecorderSendValue recorder out r' after' → (r ≡ r') × (after ≡ after')
one_heron_recorder_send_value recorder out = one_outcome

pub one_heron_recorder_take_value : (recorder : Recorder) (piece out : List ℕ) {r r' : TakeValue} {after after' : List ℕ} →
    HeronRecorderTakeValue recorder piece out r after → HeronRecorderTakeValue recorder piece out r' after' → (r ≡ r') × (after ≡ after')
one_heron_recorder_take_value recorder piece out = one_outcome
