-- The lowest two digits of a number, stored. Assumes nothing.
use Prim.Native.Nat.{ℕ, ◌+◌, ◌/◌, ◌%◌, ◌≤◌}
use mathlib.Core.List.{List, [], ◌∷◌}
use mathlib.Core.Path.{◌≡◌}
use native.Mathlib.Numerals.{add-one}
use native.Mathlib.Omega.{arith}
use lib.ListN.{length, set}
use Rattle.laws.specs.Over.{over}
use Rattle.laws.proofs.OverLaws.{sets_over}
use Rattle.digits.specs.Digits.{digits, decimal}

pub two : (d : List ℕ) (a m : ℕ) → a + 2 ≤ length d → set (set d a (48 + m % 100 / 10)) (a + 1) (48 + m % 100 % 10) ≡ over d a (decimal 2 m)
unfolding digits
two d a m h =
    let x = 48 + m % 100 / 10 in
    let y = 48 + m % 100 % 10 in
    let room : a + length (x ∷ y ∷ []) ≤ length d = h in
    let t : x ≡ 48 + m / 10 % 10 = omega arith in
    let o : y ≡ 48 + m / 1 % 10 = omega arith in
    rw (add-one, ← t, ← o) (sets_over d (x ∷ y ∷ []) a room)
