-- Numbers in whole bytes, lowest first: the order in which a word is stored and a C host is handed a number.
use Rattle.std.specs.Prelude.{ℕ, zero, suc, ◌+◌, ◌*◌, ◌/◌, ◌%◌, List, [], ◌∷◌}

-- the w lowest bytes of n
unfoldable pub lowest_first : ℕ → ℕ → List ℕ
lowest_first zero n = []
lowest_first (suc w) n = n % 256 ∷ lowest_first w (n / 256)

-- the number in some bytes
unfoldable pub from_lowest : List ℕ → ℕ
from_lowest [] = 0
from_lowest (b ∷ s) = b + 256 * from_lowest s
