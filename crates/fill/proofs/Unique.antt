-- One answer and one content of the lent buffer for the driver's call. Assumes nothing.
use Prim.Native.Nat.{ℕ}
use mathlib.Core.List.{List}
use mathlib.Core.Path.{◌≡◌}
use Rattle.laws.proofs.OneAnswer.{one_outcome}
use Rattle.port.specs.declared.Port.{Port}
use Rattle.fill.specs.Clauses.{Fill}
use Rattle.fill.specs.declared.Filled.{Filled}

pub one_fill : (port : Port) (out : List ℕ) {r r' : Filled} {after after' : List ℕ} →
    Fill port out r after → Fill port out r' after' → (r ≡ r') × (after ≡ after')
one_fill port out = one_outcome
