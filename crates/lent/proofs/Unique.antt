-- One answer, and one content of lent memory, for each contract of this crate. Assumes nothing.
use Prim.Native.Nat.{ℕ}
use mathlib.Core.Bool.{Bool}
use mathlib.Core.List.{List}
use mathlib.Core.Path.{◌≡◌}
use Rattle.laws.proofs.OneAnswer.{one_answer}
use Rattle.lent.specs.Clauses.{HasRoom, PutByte, PutPair, PutText}

pub one_has_room : (len at n : ℕ) {r r' : Bool} → HasRoom len at n r → HasRoom len at n r' → r ≡ r'
one_has_room len at n = one_answer

pub one_put_byte : (out : List ℕ) (at byte : ℕ) {after after' : List ℕ} → PutByte out at byte after → PutByte out at byte after' → after ≡ after'
one_put_byte out at byte = one_answer

pub one_put_pair : (out : List ℕ) (at first second : ℕ) {after after' : List ℕ} →
    PutPair out at first second after → PutPair out at first second after' → after ≡ after'
one_put_pair out at first second = one_answer

pub one_put_text : (out : List ℕ) (at : ℕ) (text : List ℕ) {after after' : List ℕ} →
    PutText out at text after → PutText out at text after' → after ≡ after'
one_put_text out at text = one_answer
