-- A test of every member, one member after another: what was seen and what is left have the whole's answer. Assumes nothing.
use Prim.Native.Nat.{ℕ, suc, ◌≤◌, ◌<◌}
use mathlib.Core.Bool.{Bool, true, false, ◌&&◌}
use mathlib.Core.List.{List, ◌∷◌}
use mathlib.Core.Path.{◌≡◌, refl}
use lib.ListN.{length, get_or, drop, drop_of_length-le}
use lib.Seq.{drop-cons}
use Rattle.laws.specs.Every.{every}
use Rattle.laws.proofs.Tests.{and_left, and_right}

-- the first passes, and so do the others
pub every_head : (ok : ℕ → Bool) (x : ℕ) (s : List ℕ) → every ok (x ∷ s) ≡ true → ok x ≡ true
unfolding every
every_head ok x s h = and_left (ok x) (every ok s) h

pub every_tail : (ok : ℕ → Bool) (x : ℕ) (s : List ℕ) → every ok (x ∷ s) ≡ true → every ok s ≡ true
unfolding every
every_tail ok x s h = and_right (ok x) (every ok s) h

-- the member at i joins what was seen
pub every_next : (ok : ℕ → Bool) (s : List ℕ) (i : ℕ) (seen : Bool) → i < length s →
    (seen && every ok (drop i s)) ≡ ((seen && ok (get_or s i 0)) && every ok (drop (suc i) s))
unfolding every
every_next ok s i true more = rw (drop-cons s i 0 more)
every_next ok s i false more = refl

-- none is left
pub every_seen : (ok : ℕ → Bool) (s : List ℕ) (i : ℕ) (seen : Bool) → length s ≤ i → (seen && every ok (drop i s)) ≡ seen
unfolding every
every_seen ok s i true done = rw (drop_of_length-le s done)
every_seen ok s i false done = refl
