-- 'Written over, the rest unchanged': the one word for what a writer leaves in lent memory.
use Rattle.std.specs.Prelude.{ℕ, ◌+◌, cond, List, ◌++◌, leb, length, take, drop}

-- d with s written over it from a on; d itself where s does not fit
unfoldable pub over : List ℕ → ℕ → List ℕ → List ℕ
over d a s = cond (leb (a + length s) (length d)) (take a d ++ (s ++ drop (a + length s) d)) d
