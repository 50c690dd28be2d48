-- One answer, and one content of lent memory, for each public contract of this crate. Assumes nothing.
use Prim.Native.Nat.{ℕ}
use mathlib.Core.Bool.{Bool}
use mathlib.Core.List.{List}
use mathlib.Core.Path.{◌≡◌}
use Rattle.laws.proofs.OneAnswer.{one_answer, one_outcome}
use Rattle.refusal.specs.Answer.{Answer}
use Rattle.record.specs.declared.Record.{Record}
use Rattle.packed_writer.specs.Clauses.{PutPackedRecord, WritePacked}

pub one_put_packed_record : (out : List ℕ) (r : Record) {after after' : List ℕ} →
    PutPackedRecord out r after → PutPackedRecord out r after' → after ≡ after'
one_put_packed_record out r = one_answer

pub one_write_packed : (r : Record) (checksum : Bool) (out : List ℕ) {w w' : Answer ℕ} {after after' : List ℕ} →
    WritePacked r checksum out w after → WritePacked r checksum out w' after' → (w ≡ w') × (after ≡ after')
one_write_packed r checksum out = one_outcome
