-- One answer each: two answers that meet the contract of a public function are equal. Assumes nothing.
use Prim.Native.Nat.{ℕ}
use mathlib.Core.Bool.{Bool}
use mathlib.Core.Path.{◌≡◌}
use Rattle.std.specs.Prelude.{Option}
use Rattle.laws.proofs.OneAnswer.{one_answer}
use Rattle.line.specs.declared.Line.{Line}
use Rattle.append.specs.Clauses.{NoteEmpty, NoteIsValid, NoteLength, NoteAfter}
use Rattle.append.specs.declared.Note.{Note}

pub one_empty : (opened : Bool) {r r' : Note} → NoteEmpty opened r → NoteEmpty opened r' → r ≡ r'
one_empty opened = one_answer

pub one_is_valid : (self : Note) {r r' : Bool} → NoteIsValid self r → NoteIsValid self r' → r ≡ r'
one_is_valid self = one_answer

pub one_length : (self : Note) {r r' : ℕ} → NoteLength self r → NoteLength self r' → r ≡ r'
one_length self = one_answer

pub one_after : (self : Note) (line : Line) {r r' : Option Note} → NoteAfter self line r → NoteAfter self line r' → r ≡ r'
one_after self line = one_answer
