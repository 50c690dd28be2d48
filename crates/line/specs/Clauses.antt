-- What each public function promises: its answer.
use Rattle.std.specs.Prelude.{ℕ, Bool, ◌≡◌}
use Rattle.line.specs.Line.{blank, ends, joined, valid_line}
use Rattle.line.specs.Command.{command_of}
use Rattle.line.specs.declared.Line.{Line}
use Rattle.line.specs.declared.Command.{Command}

abbrev pub LineBlank : Line → Type 0
LineBlank r = r ≡ blank

abbrev pub LineEnds : Line → ℕ → Bool → Type 0
LineEnds self byte r = r ≡ ends self byte

abbrev pub LineJoined : Line → ℕ → Line → Type 0
LineJoined self byte r = r ≡ joined self byte

abbrev pub LineIsValid : Line → Bool → Type 0
LineIsValid self r = r ≡ valid_line self

abbrev pub LineCommand : Line → Command → Type 0
LineCommand self r = r ≡ command_of self
