-- What each public function promises: its answer.
use Rattle.std.specs.Prelude.{ℕ, Bool, List, ◌≡◌}
use Rattle.note.specs.Note.{note_ok}

abbrev pub IsNote : List ℕ → Bool → Type 0
IsNote s r = r ≡ note_ok s
