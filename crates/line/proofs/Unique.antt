-- One answer each: two answers that meet the contract of a public function are equal. Assumes nothing.
use Prim.Native.Nat.{ℕ}
use mathlib.Core.Bool.{Bool}
use mathlib.Core.Path.{◌≡◌}
use Rattle.laws.proofs.OneAnswer.{one_answer}
use Rattle.line.specs.Clauses.{LineBlank, LineEnds, LineJoined, LineIsValid, LineCommand}
use Rattle.line.specs.declared.Line.{Line}
use Rattle.line.specs.declared.Command.{Command}

pub one_blank : {r r' : Line} → LineBlank r → LineBlank r' → r ≡ r'
one_blank = one_answer

pub one_ends : (self : Line) (byte : ℕ) {r r' : Bool} → LineEnds self byte r → LineEnds self byte r' → r ≡ r'
one_ends self byte = one_answer

pub one_joined : (self : Line) (byte : ℕ) {r r' : Line} → LineJoined self byte r → LineJoined self byte r' → r ≡ r'
one_joined self byte = one_answer

pub one_is_valid : (self : Line) {r r' : Bool} → LineIsValid self r → LineIsValid self r' → r ≡ r'
one_is_valid self = one_answer

pub one_command : (self : Line) {r r' : Command} → LineCommand self r → LineCommand self r' → r ≡ r'
one_command self = one_answer
