-- One answer, and one content of lent memory, for each contract of this crate. Assumes nothing.
use Prim.Native.Nat.{ℕ}
use mathlib.Core.Bool.{Bool}
use mathlib.Core.List.{List}
use mathlib.Core.Path.{◌≡◌}
use Rattle.laws.proofs.OneAnswer.{one_answer, one_outcome}
use Rattle.refusal.specs.Answer.{Answer}
use Rattle.capture.specs.declared.Event.{Event}
use Rattle.telling.specs.Clauses.{RunStart, RunIsValid, RunIsOver, RunTell, RunCount}
use Rattle.telling.specs.declared.Run.{Run}
use Rattle.telling.specs.declared.Begun.{Begun}
use Rattle.telling.specs.declared.Told.{Told}

pub one_start : (letter : ℕ) {r r' : Begun} → RunStart letter r → RunStart letter r' → r ≡ r'
one_start letter = one_answer

pub one_is_valid : (self : Run) {r r' : Bool} → RunIsValid self r → RunIsValid self r' → r ≡ r'
one_is_valid self = one_answer

pub one_is_over : (self : Run) {r r' : Bool} → RunIsOver self r → RunIsOver self r' → r ≡ r'
one_is_over self = one_answer

pub one_tell : (self : Run) (event : Event) (out : List ℕ) {r r' : Told} {after after' : List ℕ} →
    RunTell self event out r after → RunTell self event out r' after' → (r ≡ r') × (after ≡ after')
one_tell self event out = one_outcome

pub one_count : (self : Run) (out : List ℕ) {r r' : Answer ℕ} {after after' : List ℕ} →
    RunCount self out r after → RunCount self out r' after' → (r ≡ r') × (after ≡ after')
one_count self out = one_outcome
