-- What lent memory holds after each public function.
use Rattle.std.specs.Prelude.{ℕ, Bool, List, ◌≡◌}
use Rattle.laws.specs.Over.{over}
use Rattle.frame.specs.Clauses.{PutEnding}
use Rattle.record.specs.Forms.{text_length}
use Rattle.straight.specs.Text.{text_in}

abbrev pub PutContents : List ℕ → List ℕ → List ℕ → Type 0
PutContents out s after = after ≡ over out 0 (text_in s)

-- the ending that frame puts behind it
abbrev pub EndText : List ℕ → Bool → List ℕ → Type 0
EndText out checksum after = PutEnding out text_length checksum after
