-- One answer, and one content of lent memory, for each public contract of this crate. Assumes nothing.
use Prim.Native.Nat.{ℕ}
use mathlib.Core.Bool.{Bool}
use mathlib.Core.List.{List}
use mathlib.Core.Path.{◌≡◌}
use Rattle.laws.proofs.OneAnswer.{one_outcome}
use Rattle.refusal.specs.Answer.{Answer}
use Rattle.record.specs.declared.Record.{Record}
use Rattle.transfer.specs.Clauses.{ByRecord, PackedToText, RecordToText}

pub one_by_record : (m : List ℕ) (checksum : Bool) (out : List ℕ) {w w' : Answer ℕ} {after after' : List ℕ} →
    ByRecord m checksum out w after → ByRecord m checksum out w' after' → (w ≡ w') × (after ≡ after')
one_by_record m checksum out = one_outcome

pub one_packed_to_text : (m : List ℕ) (checksum : Bool) (out : List ℕ) {w w' : Answer ℕ} {after after' : List ℕ} →
    PackedToText m checksum out w after → PackedToText m checksum out w' after' → (w ≡ w') × (after ≡ after')
one_packed_to_text m checksum out = one_outcome

pub one_record_to_text : (r : Record) (checksum : Bool) (out : List ℕ) {w w' : Answer ℕ} {after after' : List ℕ} →
    RecordToText r checksum out w after → RecordToText r checksum out w' after' → (w ≡ w') × (after ≡ after')
one_record_to_text r checksum out = one_outcome
