-- What each public function promises: its answer.
use Rattle.std.specs.Prelude.{ℕ, ◌≡◌}
use Rattle.refusal.specs.Refusal.{number_of, value_of}
use Rattle.refusal.specs.declared.Refusal.{Refusal}

abbrev pub NumberOf : Refusal → ℕ → Type 0
NumberOf r n = n ≡ number_of r

abbrev pub ValueOf : Refusal → ℕ → Type 0
ValueOf r n = n ≡ value_of r
