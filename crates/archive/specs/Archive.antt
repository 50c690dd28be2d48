-- An old line moved forward and a new line moved back: read, then written.
use Rattle.std.specs.Prelude.{ℕ, false, List, Ok}
use Rattle.refusal.specs.Answer.{Answer, and_then, unless}
use Rattle.refusal.specs.declared.Refusal.TheVariants.{Field, Lost}
use Rattle.codec.specs.Codec.{text_ok}
use Rattle.frame.specs.Message.{read_of, message_of}
use Rattle.record.specs.Forms.{text_form, with_serial}
use Rattle.record.specs.declared.Figures.{Figures}
use Rattle.archive.specs.Old.{by_ten, old_form}

-- how many bytes an old and a new line have, LF CR included
abbrev pub old_line_length : ℕ
old_line_length = 66

abbrev pub new_line_length : ℕ
new_line_length = 76

-- "adds S": the new line of fields 1 to 11 and a serial; 1 for the serial
unfoldable pub added : List ℕ → Figures → Answer (List ℕ)
added s f = unless (text_ok 9 s) (Field 12) (Ok (message_of text_form false (with_serial f s)))

-- "drops S, and only when the thousandths divide by ten": the old line; 11 where they do not
unfoldable pub dropped : Figures → Answer (List ℕ)
dropped f = unless (by_ten f.zoom) Lost (Ok (message_of old_form false f))

-- "3 to 6 of the line first"
unfoldable pub forward : List ℕ → List ℕ → Answer (List ℕ)
forward m s = and_then (read_of old_form false m) (λ f. added s f)

unfoldable pub back : List ℕ → Answer (List ℕ)
back m = and_then (read_of text_form false m) (λ r. dropped r.figures)
