-- What each public function promises: its answer, and what lent memory holds after it.
use Rattle.std.specs.Prelude.{ℕ, List, ◌≡◌}
use Rattle.laws.specs.Over.{over}
use Rattle.codec.specs.Codec.{filled}
use Rattle.record.specs.Forms.{serial, with_serial}
use Rattle.record.specs.declared.Figures.{Figures}
use Rattle.record.specs.declared.Record.{Record}

abbrev pub PutSerial : List ℕ → ℕ → List ℕ → List ℕ → Type 0
PutSerial out at text after = after ≡ over out at (serial.print text)

abbrev pub NineOf : List ℕ → List ℕ → Type 0
NineOf s r = r ≡ filled 9 s

abbrev pub RecordFrom : Figures → List ℕ → Record → Type 0
RecordFrom figures s r = r ≡ with_serial figures (filled 9 s)
