-- The two bytes that stand at a place. Assumes nothing.
use Rattle.std.proofs.Common.{◌≡◌, ℕ, suc, ◌+◌, ◌≤◌, List, ◌∷◌, length, drop, get_or, ap, ◌∙◌, arith, add-one}
use lib.Seq.{drop-cons}

pub pair_at : (m : List ℕ) (n : ℕ) → n + 2 ≤ length m → drop n m ≡ get_or m n 0 ∷ (get_or m (n + 1) 0 ∷ drop (n + 2) m)
pair_at m n h =
    let two : n + 2 ≡ suc (suc n) = omega arith in
    drop-cons m n 0 (omega arith) ∙ rw (two, add-one) (ap (λ t. get_or m n 0 ∷ t) (drop-cons m (suc n) 0 (omega arith)))
