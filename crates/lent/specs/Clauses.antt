-- What each public function promises: its answer, and what lent memory holds after it.
use Rattle.std.specs.Prelude.{ℕ, ◌+◌, Bool, List, [], ◌∷◌, ◌≡◌, leb}
use Rattle.laws.specs.Over.{over}

abbrev pub HasRoom : ℕ → ℕ → ℕ → Bool → Type 0
HasRoom len at n r = r ≡ leb (at + n) len

abbrev pub PutByte : List ℕ → ℕ → ℕ → List ℕ → Type 0
PutByte out at byte after = after ≡ over out at (byte ∷ [])

abbrev pub PutPair : List ℕ → ℕ → ℕ → ℕ → List ℕ → Type 0
PutPair out at first second after = after ≡ over out at (first ∷ second ∷ [])

abbrev pub PutText : List ℕ → ℕ → List ℕ → List ℕ → Type 0
PutText out at text after = after ≡ over out at text
