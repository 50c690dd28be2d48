-- What each public function promises: its answer.
use Rattle.std.specs.Prelude.{ℕ, Bool, ◌≡◌, length, Option}
use Rattle.line.specs.declared.Line.{Line}
use Rattle.append.specs.Append.{appended, empty, valid_note, note_after}
use Rattle.append.specs.declared.Note.{Note}

abbrev pub NoteEmpty : Bool → Note → Type 0
NoteEmpty opened r = r ≡ empty opened

abbrev pub NoteIsValid : Note → Bool → Type 0
NoteIsValid self r = r ≡ valid_note self

abbrev pub NoteLength : Note → ℕ → Type 0
NoteLength self r = r ≡ length (appended self)

abbrev pub NoteAfter : Note → Line → Option Note → Type 0
NoteAfter self line r = r ≡ note_after self line
