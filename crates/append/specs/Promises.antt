-- What OC, OD and OH do, to the letter, and that no other line touches the note: statements only.
use Rattle.std.specs.Prelude.{ℕ, ◌≤◌, Bool, true, false, List, [], ◌∷◌, ◌≢◌, ◌↔◌, ◌⊎◌, ◌≡◌, take, None, Some}
use Rattle.note.specs.Note.{note_ok}
use Rattle.line.specs.Command.{command_of}
use Rattle.line.specs.declared.Line.{Line}
use Rattle.line.specs.declared.Command.TheVariants.{Unknown}
use Rattle.append.specs.Append.{appended, empty, holding, valid_note, noted_by, note_after}
use Rattle.append.specs.declared.Note.{Note}

-- the bytes of the three commands, by what they do to a note
pub data Asks (n : Note) : List ℕ → Note → Type 0 where
  -- "OC opens an empty string"; where one is open, it is emptied
  opens : Asks n (0x4F ∷ 0x43 ∷ []) (empty true)
  -- "OD sets it whole"
  sets : (s : List ℕ) → n.opened ≡ true → note_ok s ≡ true → Asks n (0x4F ∷ 0x44 ∷ s) (holding s)
  -- "OH empties and closes it"
  closes : Asks n (0x4F ∷ 0x48 ∷ []) (empty false)

-- a note of ours
pub record Ours (n : Note) : Type 0 where
  pub count : n.len ≤ 60
  pub bytes : note_ok (appended n) ≡ true
  pub closed : n.opened ≡ false → n.len ≡ 0

pub record Promised : Type 0 where
  -- each of the three is known, with the note that it asks for
  pub asked : (n : Note) (s : List ℕ) (m : Note) → Asks n s m → noted_by n s ≡ Some m
  -- "counts as unknown": every other line, and "an unknown OD leaves the string"
  pub only : (n : Note) (s : List ℕ) → (noted_by n s ≡ None) ⊎ ((m : Note) × Asks n s m × (noted_by n s ≡ Some m))
  pub not_open : (n : Note) (s : List ℕ) → n.opened ≡ false → noted_by n (0x4F ∷ 0x44 ∷ s) ≡ None
  pub not_a_note : (n : Note) (s : List ℕ) → note_ok s ≡ false → noted_by n (0x4F ∷ 0x44 ∷ s) ≡ None
  -- what was set is what is appended; an empty note appends nothing
  pub set_whole : (s : List ℕ) → note_ok s ≡ true → appended (holding s) ≡ s
  pub empty_none : (opened : Bool) → appended (empty opened) ≡ []
  -- a line is what all of its bytes are; an overlong one is unknown
  pub by_bytes : (n : Note) (l : Line) → l.len ≤ 64 → l.overlong ≡ false → note_after n l ≡ noted_by n (take l.len l.bytes)
  pub overlong : (n : Note) (l : Line) → l.overlong ≡ true → note_after n l ≡ None
  -- no command of the table is one of the three: "its 18 rows stay"
  pub no_row : (n : Note) (l : Line) → command_of l ≢ Unknown → note_after n l ≡ None
  -- what 16 asks of a note: a count within its buffer, bytes that may be appended, none where it is closed
  pub valid_when : (n : Note) → (valid_note n ≡ true) ↔ Ours n
  -- a valid note stays valid: what a line sets is valid, whatever stood before
  pub stays_valid : (n m : Note) (l : Line) → note_after n l ≡ Some m → valid_note m ≡ true
