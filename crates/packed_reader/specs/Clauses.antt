-- What each public function promises: its answer.
use Rattle.std.specs.Prelude.{ℕ, Bool, List, ◌≡◌}
use Rattle.record.specs.declared.Record.{Record}
use Rattle.refusal.specs.Answer.{Answer}
use Rattle.codec.specs.Codec.{parsed}
use Rattle.frame.specs.Message.{found, read_of}
use Rattle.record.specs.Forms.{front_packed, middle_packed, back_packed, packed_form}
use Rattle.gather.specs.Gather.{four_says, three_says, Four, Three}

abbrev pub ReadFront : List ℕ → Four → Type 0
ReadFront s r = four_says r ≡ parsed front_packed 1 s

abbrev pub ReadMiddle : List ℕ → Four → Type 0
ReadMiddle s r = four_says r ≡ parsed middle_packed 5 s

abbrev pub ReadBack : List ℕ → Three → Type 0
ReadBack s r = three_says r ≡ parsed back_packed 9 s

abbrev pub ReadContents : List ℕ → Answer Record → Type 0
ReadContents s a = a ≡ found (parsed packed_form 1 s)

abbrev pub ReadPacked : List ℕ → Bool → Answer Record → Type 0
ReadPacked m checksum a = a ≡ read_of packed_form checksum m
