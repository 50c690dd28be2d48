-- `stop::read_stop` meets its contract: each `return` is a case of `read_stop`. Assumes nothing.
use Prim.Native.Nat.{ℕ, ◌/◌}
use mathlib.Core.Bool.{true, false}
use mathlib.Core.Path.{◌≡◌, sym, ◌∙◌}
use native.Mathlib.Omega.{arith}
use borrow.Author.Tests.{eq-eqb, ne_eqb}
use Rattle.std.specs.Prelude.{None, Some}
use Rattle.stop.specs.Stop.{stop_ok, stop_in, read_stop}
use Rattle.stop.proofs.read_stop.Goals as goal

module _ (x y n : ℕ) where
  top_bit : (x / 128 ≡ 1 → ⊥) → None ≡ read_stop x y
  unfolding read_stop
  top_bit h = rw (ne_eqb (x / 128) 1 h)

  out : x / 128 ≡ 1 → stop_in x y ≡ n → stop_ok n ≡ false → None ≡ read_stop x y
  unfolding read_stop
  out h e k = rw (eq-eqb (x / 128) 1 h, e, k)

  found : x / 128 ≡ 1 → stop_in x y ≡ n → stop_ok n ≡ true → Some n ≡ read_stop x y
  unfolding read_stop
  found h e k = rw (eq-eqb (x / 128) 1 h, e, k)

pub returns-then-x-ne1 : goal.returns-then-x-ne1
returns-then-x-ne1 c = top_bit c.args.a c.args.b 0 (λ e. omega arith)

pub returns-then-not-stop_ok : goal.returns-then-not-stop_ok
returns-then-not-stop_ok c = out c.args.a c.args.b _ (omega arith) (omega arith) (sym c.stop_ok.ensures ∙ c.if-not-stop_ok.true)

pub returns : goal.returns
returns c = found c.args.a c.args.b _ (omega arith) (omega arith) (sym c.stop_ok.ensures ∙ c.if-not-stop_ok.false)
