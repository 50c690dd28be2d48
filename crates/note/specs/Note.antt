-- What may be appended to a record: up to 60 bytes, none below 20 hex.
use Rattle.std.specs.Prelude.{ℕ, Bool, ◌&&◌, List, leb, length}
use Rattle.laws.specs.Every.{every}

abbrev pub longest_note : ℕ
longest_note = 60

abbrev pub note_ok : List ℕ → Bool
note_ok s = leb (length s) longest_note && every (λ x. leb 32 x) s
