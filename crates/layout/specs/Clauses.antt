-- What each public function promises: what lent memory holds after it.
use Rattle.std.specs.Prelude.{ℕ, List, ◌≡◌}
use Rattle.laws.specs.Over.{over}
use Rattle.record.specs.declared.Record.{Record}
use Rattle.fixed.specs.declared.Fixed.{Fixed}
use Rattle.layout.specs.Layout.{record_bytes, fixed_bytes}

abbrev pub PutRecord : List ℕ → Record → List ℕ → Type 0
PutRecord out r after = after ≡ over out 0 (record_bytes r)

abbrev pub PutFixed : List ℕ → Fixed → List ℕ → Type 0
PutFixed out f after = after ≡ over out 0 (fixed_bytes f)
