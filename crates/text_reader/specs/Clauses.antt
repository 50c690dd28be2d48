-- What each public function promises: its answer.
use Rattle.std.specs.Prelude.{ℕ, Bool, List, ◌≡◌, Option}
use Rattle.record.specs.declared.Record.{Record}
use Rattle.refusal.specs.Answer.{Answer}
use Rattle.codec.specs.Codec.{read_tagged, read_whole, parsed}
use Rattle.pointed.specs.Pointed.{read_pointed}
use Rattle.frame.specs.Message.{found, read_of}
use Rattle.record.specs.Forms.{front_text, middle_text, back_text, text_form}
use Rattle.gather.specs.Gather.{four_says, three_says, Four, Three}
use Rattle.text_reader.specs.Reader.{with_zoom}

abbrev pub ReadView : List ℕ → Option ℕ → Type 0
ReadView s r = r ≡ read_whole 6 (read_tagged 86 (read_pointed 4095)) s

abbrev pub ReadFront : List ℕ → Four → Type 0
ReadFront s r = four_says r ≡ parsed front_text 1 s

abbrev pub ReadMiddle : List ℕ → Four → Type 0
ReadMiddle s r = four_says r ≡ parsed middle_text 5 s

abbrev pub WithZoom : List ℕ → Option ℕ → Three → Type 0
WithZoom s zoom r = three_says r ≡ with_zoom s zoom

abbrev pub ReadBack : List ℕ → Three → Type 0
ReadBack s r = three_says r ≡ parsed back_text 9 s

abbrev pub ReadContents : List ℕ → Answer Record → Type 0
ReadContents s a = a ≡ found (parsed text_form 1 s)

abbrev pub ReadText : List ℕ → Bool → Answer Record → Type 0
ReadText m checksum a = a ≡ read_of text_form checksum m
