-- Parts of a list. Assumes nothing.
use Prim.Native.Nat.{ℕ, zero, suc, ◌+◌}
use mathlib.Core.List.{List, [], ◌∷◌, ◌++◌}
use mathlib.Core.Path.{◌≡◌, refl, sym, ap, ◌∙◌}
use native.Mathlib.Nat.{zero-add}
use native.Mathlib.Omega.{arith}
use lib.ListN.{length, take, drop, get_or, length-drop}
use lib.Seq.{take_all, take-nil, take-append-add, drop-append-add, get_or-append-add}

-- the end of the first n + k
pub drop_of_take : (n k m : ℕ) (s : List ℕ) → m ≡ n + k → drop n (take m s) ≡ take k (drop n s)
drop_of_take zero k m s e = ap (λ (j : ℕ). take j s) (e ∙ zero-add k)
drop_of_take (suc n) k zero s e = absurd (omega arith)
drop_of_take (suc n) k (suc m) [] e = sym (take-nil k)
drop_of_take (suc n) k (suc m) (x ∷ s) e = drop_of_take n k m s (omega arith)

-- the last k are all that follows the others
pub last_part : (n k : ℕ) (s : List ℕ) → length s ≡ n + k → take k (drop n s) ≡ drop n s
last_part n k s l = take_all k (drop n s) (simp length-drop (omega arith))

pub two_is : (s : List ℕ) → length s ≡ 2 → s ≡ get_or s 0 0 ∷ get_or s 1 0 ∷ []
two_is [] l = absurd (omega arith)
two_is (a ∷ []) l = absurd (omega arith)
two_is (a ∷ b ∷ []) l = refl
two_is (a ∷ b ∷ c ∷ s) l = absurd (omega arith)

-- what stands past the first n
module _ (p l : List ℕ) (n k : ℕ) (long : length p ≡ n) where
  pub take_past : take (n + k) (p ++ l) ≡ p ++ take k l
  take_past = ap (λ (i : ℕ). take (i + k) (p ++ l)) (sym long) ∙ take-append-add p l k

  pub drop_past : drop (n + k) (p ++ l) ≡ drop k l
  drop_past = ap (λ (i : ℕ). drop (i + k) (p ++ l)) (sym long) ∙ drop-append-add p l k

  pub at_past : get_or (p ++ l) (n + k) 0 ≡ get_or l k 0
  at_past = ap (λ (i : ℕ). get_or (p ++ l) (i + k) 0) (sym long) ∙ get_or-append-add p l k 0
