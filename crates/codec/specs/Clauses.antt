-- What each public function promises: its answer, and what lent memory holds after it.
use Rattle.std.specs.Prelude.{ℕ, Bool, List, ◌∷◌, ◌≡◌, Option}
use Rattle.laws.specs.Over.{over}
use Rattle.digits.specs.Digits.{decimal, read_decimal}
use Rattle.codec.specs.Codec.{printable, over_whole, read_tagged, text_behind}

abbrev pub IsText : List ℕ → Bool → Type 0
IsText s r = r ≡ printable s

abbrev pub IsBehind : List ℕ → List ℕ → Bool → Type 0
IsBehind s tags r = r ≡ text_behind tags s

abbrev pub PutItem : List ℕ → List ℕ → List ℕ → Type 0
PutItem item text after = after ≡ over_whole item text

abbrev pub PutTagged : List ℕ → ℕ → ℕ → ℕ → ℕ → List ℕ → Type 0
PutTagged out at tag width n after = after ≡ over out at (tag ∷ decimal width n)

abbrev pub ReadTagged : List ℕ → ℕ → ℕ → Option ℕ → Type 0
ReadTagged s tag top r = r ≡ read_tagged tag (read_decimal top) s
