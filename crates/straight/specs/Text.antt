-- The text of the record that the bytes of a packed one say.
use Rattle.std.specs.Prelude.{ℕ, cond, List, [], eqb, length}
use Rattle.record.specs.Forms.{text_form, packed_length}
use Rattle.packed_bytes.specs.Bytes.{packed_record}

-- of 39 bytes; of more or fewer none
unfoldable pub text_in : List ℕ → List ℕ
text_in s = cond (eqb (length s) packed_length) (text_form.print (packed_record s)) []
