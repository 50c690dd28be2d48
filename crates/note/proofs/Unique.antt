-- One answer for each contract of this crate. Assumes nothing.
use Prim.Native.Nat.{ℕ}
use mathlib.Core.Bool.{Bool}
use mathlib.Core.List.{List}
use mathlib.Core.Path.{◌≡◌}
use Rattle.laws.proofs.OneAnswer.{one_answer}
use Rattle.note.specs.Clauses.{IsNote}

pub one_is_note : (s : List ℕ) {r r' : Bool} → IsNote s r → IsNote s r' → r ≡ r'
one_is_note s = one_answer
