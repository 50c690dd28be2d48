-- The note of a port, and what a line does to it. Letters stand as their bytes: 79 is O, 67 C, 68 D, 72 H.
use Rattle.std.specs.Prelude.{ℕ, Bool, true, false, ◌&&◌, ◌||◌, cond, List, [], ◌∷◌, leb, eqb, length, replicate, take, Option, None, Some}
use Rattle.laws.specs.Over.{over}
use Rattle.note.specs.Note.{longest_note, note_ok}
use Rattle.line.specs.Line.{valid_line}
use Rattle.line.specs.declared.Line.{Line}
use Rattle.append.specs.declared.Note.{Note}

-- the bytes that records carry
abbrev pub appended : Note → List ℕ
appended n = take n.len n.bytes

unfoldable pub zeros : List ℕ
zeros = replicate longest_note 0

-- an empty note, open or closed
abbrev pub empty : Bool → Note
empty opened = record { opened = opened; bytes = zeros; len = 0 }

-- an open note of these bytes, in a fresh buffer
abbrev pub holding : List ℕ → Note
holding s = record { opened = true; bytes = over zeros 0 s; len = length s }

-- 16: a count past the buffer, a byte that may not be appended, or bytes in a closed note
unfoldable pub valid_note : Note → Bool
valid_note n = eqb n.len 0 || (n.opened && (leb n.len longest_note && note_ok (appended n)))

-- ---- what a line does to a note: the note after one of the three commands; none for every other line, which leaves it

-- OD "sets it whole"; "when not open, over 60 bytes, or with a byte below 20 hex" it is unknown
unfoldable pub set_by : Note → List ℕ → Option Note
set_by n s = cond (n.opened && note_ok s) (Some (holding s)) None

-- OC "opens an empty string", OH "empties and closes it"
unfoldable pub after_o : ℕ → Option Note
after_o b = cond (eqb b 67) (Some (empty true)) (cond (eqb b 72) (Some (empty false)) None)

-- the bytes of a whole line: nothing stands behind OC and OH
unfoldable pub noted_by : Note → List ℕ → Option Note
noted_by n [] = None
noted_by n (a ∷ []) = None
noted_by n (a ∷ b ∷ []) = cond (eqb a 79) (cond (eqb b 68) (set_by n []) (after_o b)) None
noted_by n (a ∷ b ∷ c ∷ s) = cond (eqb a 79 && eqb b 68) (set_by n (c ∷ s)) None

-- the line; an overlong one is unknown, and so is one with a count past its buffer, which names no bytes
unfoldable pub note_after : Note → Line → Option Note
note_after n l = cond l.overlong None (cond (valid_line l) (noted_by n (take l.len l.bytes)) None)
