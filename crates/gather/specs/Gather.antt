-- What the readers of the groups say: the numbers found, or the first wrong field.
use Rattle.std.specs.Prelude.{ℕ, ℤ, List, Err, Ok, Result}
use Rattle.refusal.specs.declared.Wrong.{Wrong}
use Rattle.codec.specs.Codec.{Got, got, wrong, both, mapped, parsed}
use Rattle.record.specs.Forms.{Front, Back, serial}
use Rattle.record.specs.declared.Figures.{Figures}
use Rattle.record.specs.declared.Record.{Record}

-- what a reader of a group answers: its numbers, or the first wrong field
abbrev pub Four : Type 0
Four = Result (ℕ × ℕ × ℕ × ℕ) Wrong

abbrev pub Three : Type 0
Three = Result (ℕ × ℤ × ℕ) Wrong

-- the front, or the middle, which has the same shape
unfoldable pub four_says : Four → Got Front
four_says (Ok p) = got (p.0, (p.1, (p.2, p.3)))
four_says (Err w) = wrong w.0

unfoldable pub three_says : Three → Got Back
three_says (Ok p) = got (p.0, (p.1, p.2))
three_says (Err w) = wrong w.0

unfoldable pub eleven_says : Result Figures Wrong → Got Figures
eleven_says (Ok f) = got f
eleven_says (Err w) = wrong w.0

-- fields 1 to 11 and the serial
abbrev pub record_with : Figures × List ℕ → Record
record_with p = record { figures = p.0; serial = p.1 }

-- fields 1 to 11 as they were found, and field 12 in its bytes s, wrong where they are not ten
unfoldable pub record_says : Result Figures Wrong → List ℕ → Got Record
record_says e s = mapped record_with (both (eleven_says e) (parsed serial 12 s))
