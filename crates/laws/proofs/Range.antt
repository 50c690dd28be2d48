-- A test for a range, by what is known of the number. Assumes nothing.
use Prim.Native.Nat.{ℕ, ◌≤◌, ◌<◌}
use mathlib.Core.Path.{◌≡◌}
use mathlib.Core.Bool.{true, false}
use borrow.Author.Tests.{le-leb, lt-leb, leb-true}
use lib.Dec.{leb}
use Rattle.laws.specs.Within.{within}
use Rattle.laws.proofs.Tests.{and_left, and_right}

module _ (low high x : ℕ) where
  pub inside : low ≤ x → x ≤ high → within low high x ≡ true
  unfolding within
  inside l h = rw (le-leb low x l, le-leb x high h)

  pub below : x < low → within low high x ≡ false
  unfolding within
  below l = rw (lt-leb low x l)

  pub above : low ≤ x → high < x → within low high x ≡ false
  unfolding within
  above l h = rw (le-leb low x l, lt-leb x high h)

  pub at_least : within low high x ≡ true → low ≤ x
  unfolding within
  at_least e = leb-true low x (and_left (leb low x) (leb x high) e)

  pub at_most : within low high x ≡ true → x ≤ high
  unfolding within
  at_most e = leb-true x high (and_right (leb low x) (leb x high) e)
