-- One answer, and one content of lent memory, for each public contract of this crate. Assumes nothing.
use Prim.Native.Nat.{ℕ}
use mathlib.Core.Bool.{Bool}
use mathlib.Core.List.{List}
use mathlib.Core.Path.{◌≡◌}
use Rattle.laws.proofs.OneAnswer.{one_answer, one_outcome}
use Rattle.refusal.specs.Answer.{Answer}
use Rattle.record.specs.declared.Figures.{Figures}
use Rattle.record.specs.declared.Record.{Record}
use Rattle.text_writer.specs.Clauses.{PutTen, PutTextRecord, WriteText}

pub one_put_ten : (out : List ℕ) (f : Figures) {after after' : List ℕ} → PutTen out f after → PutTen out f after' → after ≡ after'
one_put_ten out f = one_answer

pub one_put_text_record : (out : List ℕ) (r : Record) {after after' : List ℕ} →
    PutTextRecord out r after → PutTextRecord out r after' → after ≡ after'
one_put_text_record out r = one_answer

pub one_write_text : (r : Record) (checksum : Bool) (out : List ℕ) {w w' : Answer ℕ} {after after' : List ℕ} →
    WriteText r checksum out w after → WriteText r checksum out w' after' → (w ≡ w') × (after ≡ after')
one_write_text r checksum out = one_outcome
