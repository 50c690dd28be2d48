-- One answer, and one content of lent memory, for each contract of this crate. Assumes nothing.
use Prim.Native.Nat.{ℕ}
use mathlib.Core.Bool.{Bool}
use mathlib.Core.List.{List}
use mathlib.Core.Path.{◌≡◌}
use Rattle.laws.proofs.OneAnswer.{one_answer}
use Rattle.refusal.specs.Answer.{Answer, Verdict}
use Rattle.frame.specs.Clauses.{SumOf, EndingWidth, RoomFor, PutEnding, Open}
use Rattle.frame.specs.declared.Sum.{Sum}

pub one_sum_of : (s : List ℕ) {r r' : Sum} → SumOf s r → SumOf s r' → r ≡ r'
one_sum_of s = one_answer

pub one_ending_width : (checksum : Bool) {r r' : ℕ} → EndingWidth checksum r → EndingWidth checksum r' → r ≡ r'
one_ending_width checksum = one_answer

pub one_room_for : (len width : ℕ) (checksum : Bool) {r r' : Answer ℕ} → RoomFor len width checksum r → RoomFor len width checksum r' → r ≡ r'
one_room_for len width checksum = one_answer

pub one_put_ending : (out : List ℕ) (n : ℕ) (checksum : Bool) {after after' : List ℕ} →
    PutEnding out n checksum after → PutEnding out n checksum after' → after ≡ after'
one_put_ending out n checksum = one_answer

pub one_open : (m : List ℕ) (width : ℕ) (checksum : Bool) {r r' : Verdict} → Open m width checksum r → Open m width checksum r' → r ≡ r'
one_open m width checksum = one_answer
