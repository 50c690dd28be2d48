-- One content of lent memory for each public contract of this crate. Assumes nothing.
use Prim.Native.Nat.{ℕ}
use mathlib.Core.Bool.{Bool}
use mathlib.Core.List.{List}
use mathlib.Core.Path.{◌≡◌}
use Rattle.laws.proofs.OneAnswer.{one_answer}
use Rattle.straight.specs.Clauses.{PutContents, EndText}

pub one_put_contents : (out s : List ℕ) {after after' : List ℕ} → PutContents out s after → PutContents out s after' → after ≡ after'
one_put_contents out s = one_answer

pub one_end_text : (out : List ℕ) (checksum : Bool) {after after' : List ℕ} → EndText out checksum after → EndText out checksum after' → after ≡ after'
one_end_text out checksum = one_answer
