-- What each public function promises: its answer, and what lent memory holds after it. Both routes promise the same.
use Rattle.std.specs.Prelude.{ℕ, Bool, List}
use Rattle.refusal.specs.Answer.{Answer}
use Rattle.frame.specs.Message.{Moves}
use Rattle.record.specs.declared.Record.{Record}
use Rattle.text_writer.specs.Clauses.{WriteText}
use Rattle.transfer.specs.Transfer.{turned, turned_length}

abbrev pub ByRecord : List ℕ → Bool → List ℕ → Answer ℕ → List ℕ → Type 0
ByRecord m checksum out w after = Moves (turned_length checksum) (turned checksum m) out w after

abbrev pub PackedToText : List ℕ → Bool → List ℕ → Answer ℕ → List ℕ → Type 0
PackedToText m checksum out w after = Moves (turned_length checksum) (turned checksum m) out w after

-- what the text writer promises
abbrev pub RecordToText : Record → Bool → List ℕ → Answer ℕ → List ℕ → Type 0
RecordToText r checksum out w after = WriteText r checksum out w after
