-- What each public function promises: its answer.
use Rattle.std.specs.Prelude.{ℕ, Bool, List, ◌≡◌}
use Rattle.record.specs.declared.Record.{Record}
use Rattle.fixed.specs.declared.Fixed.{Fixed}
use Rattle.refusal.specs.Answer.{Answer}
use Rattle.frame.specs.Message.{read_of}
use Rattle.record.specs.Forms.{text_form, packed_form}
use Rattle.fixed.specs.Form.{fixed_form}
use Rattle.cutter.specs.Cutter.{held_from, held_message, then_read}
use Rattle.cutter.specs.Stream.{judged}
use Rattle.cutter.specs.declared.Cutter.{Cutter}

abbrev pub JudgeText : List ℕ → Bool → Answer Record → Type 0
JudgeText m checksum r = r ≡ judged (read_of text_form checksum) m

abbrev pub JudgePacked : List ℕ → Bool → Answer Record → Type 0
JudgePacked m checksum r = r ≡ judged (read_of packed_form checksum) m

abbrev pub JudgeFixed : List ℕ → Bool → Answer Fixed → Type 0
JudgeFixed m checksum r = r ≡ judged (read_of fixed_form checksum) m

abbrev pub ReadText : Cutter → List ℕ → Bool → Answer Record → Type 0
ReadText cutter part checksum r = r ≡ then_read (read_of text_form checksum) (held_message (held_from cutter part))

abbrev pub ReadPacked : Cutter → List ℕ → Bool → Answer Record → Type 0
ReadPacked cutter part checksum r = r ≡ then_read (read_of packed_form checksum) (held_message (held_from cutter part))

abbrev pub ReadFixed : Cutter → List ℕ → Bool → Answer Fixed → Type 0
ReadFixed cutter part checksum r = r ≡ then_read (read_of fixed_form checksum) (held_message (held_from cutter part))
