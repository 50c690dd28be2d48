-- One answer, and one content of lent memory, for each contract of this crate. Assumes nothing.
use Prim.Native.Nat.{ℕ}
use mathlib.Core.List.{List}
use mathlib.Core.Path.{◌≡◌}
use lib.IntN.{ℤ}
use Rattle.std.specs.Prelude.{Option}
use Rattle.laws.proofs.OneAnswer.{one_answer}
use Rattle.pupil.specs.Clauses.{PutPupilText, PutPupilPacked, ReadPupilText, ReadPupilPacked}

pub one_put_pupil_text : (out : List ℕ) (at : ℕ) (e : ℤ) {after after' : List ℕ} →
    PutPupilText out at e after → PutPupilText out at e after' → after ≡ after'
one_put_pupil_text out at e = one_answer

pub one_put_pupil_packed : (out : List ℕ) (at : ℕ) (e : ℤ) {after after' : List ℕ} →
    PutPupilPacked out at e after → PutPupilPacked out at e after' → after ≡ after'
one_put_pupil_packed out at e = one_answer

pub one_read_pupil_text : (s : List ℕ) {r r' : Option ℤ} → ReadPupilText s r → ReadPupilText s r' → r ≡ r'
one_read_pupil_text s = one_answer

pub one_read_pupil_packed : (s : List ℕ) {r r' : Option ℤ} → ReadPupilPacked s r → ReadPupilPacked s r' → r ≡ r'
one_read_pupil_packed s = one_answer
