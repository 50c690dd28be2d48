-- A packed message as a text message: read, then written, under one checksum setting for both forms.
use Rattle.std.specs.Prelude.{ℕ, Bool, List, Ok}
use Rattle.refusal.specs.Answer.{Answer, and_then}
use Rattle.frame.specs.Message.{read_of, message_of}
use Rattle.frame.specs.Refuses.{length_by}
use Rattle.record.specs.Forms.{text_form, packed_form}

-- "Refusals: as the reader": the text message of what the packed one holds
unfoldable pub turned : Bool → List ℕ → Answer (List ℕ)
turned checksum m = and_then (read_of packed_form checksum m) (λ r. Ok (message_of text_form checksum r))

-- how long the text message is: 76 bytes, with checksum 78
abbrev pub turned_length : Bool → ℕ
turned_length checksum = length_by checksum 76
