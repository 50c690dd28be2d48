use mathlib.Core.Bool.{◌&&◌}
use mathlib.Core.Path.{◌≡◌}
use lib.Dec.{leb}
use lib.ListN.{drop}
use Rattle.laws.specs.Every.{every}
use Rattle.note.specs.Note.{note_ok}
use Rattle.note.proofs.is_note.Given as goal

abbrev pub invariant-loop-byte : goal.invariant-loop-byte
invariant-loop-byte l = note_ok l.s ≡ (l.all && every (λ x. leb 32 x) (drop l.byte-index l.s))
