-- What each public function promises: its answer, and what lent memory holds after it.
use Rattle.std.specs.Prelude.{ℕ, Bool, List, ◌≡◌}
use Rattle.laws.specs.Over.{over}
use Rattle.refusal.specs.Answer.{Answer}
use Rattle.refusal.specs.declared.Refusal.TheVariants.{Setting}
use Rattle.frame.specs.Message.{WritesMessage}
use Rattle.fixed.specs.Form.{fixed_form}
use Rattle.fixed.specs.declared.Fixed.{Fixed}

abbrev pub PutFixedData : List ℕ → Fixed → List ℕ → Type 0
PutFixedData out f after = after ≡ over out 0 (fixed_form.print f)

abbrev pub WriteFixed : Fixed → Bool → List ℕ → Answer ℕ → List ℕ → Type 0
WriteFixed f checksum out w after = WritesMessage fixed_form Setting checksum f out w after
