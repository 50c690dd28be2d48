-- What each public function promises: its answer.
use Rattle.std.specs.Prelude.{ℕ, Bool, List, ◌≡◌}
use Rattle.std.specs.Borrow.{Bor}
use Rattle.fixed.specs.declared.Fixed.{Fixed}
use Rattle.refusal.specs.Answer.{Answer}
use Rattle.frame.specs.Message.{read_of}
use Rattle.fixed.specs.Form.{fixed_form}
use Rattle.nreader.specs.Reader.{trimmed, PartBy}

abbrev pub ReadFixed : List ℕ → Bool → Answer Fixed → Type 0
ReadFixed m checksum r = r ≡ read_of fixed_form checksum m

abbrev pub TrimmedLength : List ℕ → ℕ → Type 0
TrimmedLength s r = r ≡ trimmed s

abbrev pub OwnerPart : Bor (List ℕ) → Bool → Bor (List ℕ) → Type 0
OwnerPart m checksum r = PartBy m (read_of fixed_form checksum m.now) r
