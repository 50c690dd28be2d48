-- What each public function promises: its answer, and what lent memory holds after it.
use Rattle.std.specs.Prelude.{ℕ, Bool, List, ◌≡◌}
use Rattle.laws.specs.Over.{over}
use Rattle.refusal.specs.Answer.{Answer}
use Rattle.refusal.specs.declared.Refusal.TheVariants.{Field}
use Rattle.frame.specs.Message.{WritesMessage}
use Rattle.record.specs.Forms.{packed_form}
use Rattle.record.specs.declared.Record.{Record}

abbrev pub PutPackedRecord : List ℕ → Record → List ℕ → Type 0
PutPackedRecord out r after = after ≡ over out 0 (packed_form.print r)

abbrev pub WritePacked : Record → Bool → List ℕ → Answer ℕ → List ℕ → Type 0
WritePacked r checksum out w after = WritesMessage packed_form Field checksum r out w after
