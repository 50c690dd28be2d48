-- What each public function promises: its answer, and what lent memory holds after it.
use Rattle.std.specs.Prelude.{ℕ, Bool, List, ◌≡◌}
use Rattle.laws.specs.Over.{over}
use Rattle.refusal.specs.Answer.{Answer}
use Rattle.refusal.specs.declared.Refusal.TheVariants.{Field}
use Rattle.frame.specs.Message.{WritesMessage}
use Rattle.record.specs.Forms.{ten_text, text_form}
use Rattle.record.specs.declared.Figures.{Figures}
use Rattle.record.specs.declared.Record.{Record}

abbrev pub PutTen : List ℕ → Figures → List ℕ → Type 0
PutTen out f after = after ≡ over out 0 (ten_text f)

abbrev pub PutTextRecord : List ℕ → Record → List ℕ → Type 0
PutTextRecord out r after = after ≡ over out 0 (text_form.print r)

abbrev pub WriteText : Record → Bool → List ℕ → Answer ℕ → List ℕ → Type 0
WriteText r checksum out w after = WritesMessage text_form Field checksum r out w after
