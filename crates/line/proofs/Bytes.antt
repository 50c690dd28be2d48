-- The decision over a line's bytes, by how many there are. Assumes nothing.
use Prim.Native.Nat.{ℕ}
use mathlib.Core.Path.{◌≡◌, refl}
use mathlib.Core.List.{List, [], ◌∷◌}
use native.Mathlib.Omega.{arith}
use lib.ListN.{length, get_or}
use Rattle.line.specs.Command.{one_byte, two_bytes, three_bytes, command_in}
use Rattle.line.specs.declared.Command.TheVariants.{Unknown}

pub of_one : (s : List ℕ) → length s ≡ 1 → command_in s ≡ one_byte (get_or s 0 0)
unfolding command_in
of_one [] e = absurd (omega arith)
of_one (a ∷ []) e = refl
of_one (a ∷ b ∷ s) e = absurd (omega arith)

pub of_two : (s : List ℕ) → length s ≡ 2 → command_in s ≡ two_bytes (get_or s 0 0) (get_or s 1 0)
unfolding command_in
of_two [] e = absurd (omega arith)
of_two (a ∷ []) e = absurd (omega arith)
of_two (a ∷ b ∷ []) e = refl
of_two (a ∷ b ∷ c ∷ s) e = absurd (omega arith)

pub of_three : (s : List ℕ) → length s ≡ 3 → command_in s ≡ three_bytes (get_or s 0 0) (get_or s 1 0) (get_or s 2 0)
unfolding command_in
of_three [] e = absurd (omega arith)
of_three (a ∷ []) e = absurd (omega arith)
of_three (a ∷ b ∷ []) e = absurd (omega arith)
of_three (a ∷ b ∷ c ∷ []) e = refl
of_three (a ∷ b ∷ c ∷ d ∷ s) e = absurd (omega arith)

pub of_other : (s : List ℕ) → (length s ≡ 1 → ⊥) → (length s ≡ 2 → ⊥) → (length s ≡ 3 → ⊥) → command_in s ≡ Unknown
unfolding command_in
of_other [] p q r = refl
of_other (a ∷ []) p q r = absurd (p refl)
of_other (a ∷ b ∷ []) p q r = absurd (q refl)
of_other (a ∷ b ∷ c ∷ []) p q r = absurd (r refl)
of_other (a ∷ b ∷ c ∷ d ∷ s) p q r = refl
