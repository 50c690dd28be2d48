-- "Words are separated by one space": what stands before a space, and behind so many.
use Rattle.std.specs.Prelude.{ℕ, zero, suc, ◌≤◌, cond, List, [], ◌∷◌, ◌≡◌, eqb, length, take, drop}

-- how many bytes stand before the first x; all of them where there is none
unfoldable pub before : ℕ → List ℕ → ℕ
before x [] = 0
before x (b ∷ s) = cond (eqb b x) 0 (suc (before x s))

abbrev pub space : ℕ
space = 32

-- what stands behind the first k spaces; nothing where there are fewer
unfoldable pub behind : ℕ → List ℕ → List ℕ
behind zero s = s
behind (suc k) s = behind k (drop (suc (before space s)) s)

-- the word there, up to the next space
unfoldable pub word : ℕ → List ℕ → List ℕ
word k s = take (before space (behind k s)) (behind k s)

unfoldable pub spaces : List ℕ → ℕ
spaces [] = 0
spaces (b ∷ s) = cond (eqb b space) (suc (spaces s)) (spaces s)

-- the byte of a word of one; 0 for a longer one, and for none
unfoldable pub sole : List ℕ → ℕ
sole [] = 0
sole (b ∷ []) = b
sole (b ∷ c ∷ s) = 0

-- the word behind k spaces starts at a place
pub record StartsWord (s : List ℕ) (k at : ℕ) : Type 0 where
  pub fits : at ≤ length s
  pub there : drop at s ≡ behind k s
