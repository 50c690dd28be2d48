-- `stop::read_tenth` meets its contract: each `return` is a case of `read_tenth`. Assumes nothing.
use Prim.Native.Nat.{ℕ, ◌/◌, ◌%◌, ◌≤◌, ◌<◌}
use mathlib.Core.Path.{◌≡◌}
use native.Mathlib.Omega.{arith}
use borrow.Author.Tests.{eq-eqb, ne_eqb, le-leb, lt-leb}
use Rattle.std.specs.Prelude.{None, Some}
use Rattle.stop.specs.Stop.{read_tenth}
use Rattle.stop.proofs.read_tenth.Goals as goal

module _ (y : ℕ) where
  top_bit : (y / 128 ≡ 1 → ⊥) → None ≡ read_tenth y
  unfolding read_tenth
  top_bit h = rw (ne_eqb (y / 128) 1 h)

  high : y / 128 ≡ 1 → 9 < y % 64 → None ≡ read_tenth y
  unfolding read_tenth
  high h k = rw (eq-eqb (y / 128) 1 h, lt-leb (y % 64) 9 k)

  found : y / 128 ≡ 1 → y % 64 ≤ 9 → Some (y % 64) ≡ read_tenth y
  unfolding read_tenth
  found h k = rw (eq-eqb (y / 128) 1 h, le-leb (y % 64) 9 k)

pub returns-then-y-ne1 : goal.returns-then-y-ne1
returns-then-y-ne1 c = top_bit c.args.b (λ e. omega arith)

pub returns-then-tenth-gt9 : goal.returns-then-tenth-gt9
returns-then-tenth-gt9 c = high c.args.b (omega arith) (omega arith)

pub returns : goal.returns
returns c = rw c.from-y.ensures (found c.args.b (omega arith) (omega arith))
