-- One answer, and one content of lent memory, for each contract of this crate. Assumes nothing.
use Prim.Native.Nat.{ℕ}
use mathlib.Core.Bool.{Bool}
use mathlib.Core.List.{List}
use mathlib.Core.Path.{◌≡◌}
use Rattle.laws.proofs.OneAnswer.{one_answer, one_outcome}
use Rattle.refusal.specs.Answer.{Answer}
use Rattle.fixed.specs.declared.Fixed.{Fixed}
use Rattle.nwriter.specs.Clauses.{PutFixedData, WriteFixed}

pub one_put_fixed_data : (out : List ℕ) (f : Fixed) {after after' : List ℕ} → PutFixedData out f after → PutFixedData out f after' → after ≡ after'
one_put_fixed_data out f = one_answer

pub one_write_fixed : (f : Fixed) (checksum : Bool) (out : List ℕ) {w w' : Answer ℕ} {after after' : List ℕ} →
    WriteFixed f checksum out w after → WriteFixed f checksum out w' after' → (w ≡ w') × (after ≡ after')
one_write_fixed f checksum out = one_outcome
