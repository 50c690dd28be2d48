-- What each public function promises: its answer, and what lent memory holds after it.
use Rattle.std.specs.Prelude.{ℕ, List, length}
use Rattle.laws.specs.Gives.{Gives}
use Rattle.port.specs.declared.Port.{Port}
use Rattle.fill.specs.Fill.{fill_of, fill_leaves}
use Rattle.fill.specs.declared.Filled.{Filled}

abbrev pub Fill : Port → List ℕ → Filled → List ℕ → Type 0
Fill port out r after = Gives (fill_of port (length out)) (fill_leaves port out) r after
