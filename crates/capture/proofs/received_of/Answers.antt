-- `capture::received_of` meets its contract: its tests are those of `received_of`. Assumes nothing.
use Prim.Native.Nat.{ℕ}
use mathlib.Core.List.{List}
use mathlib.Core.Path.{◌≡◌, refl, sym, ap₂}
use native.Mathlib.Omega.{arith}
use borrow.Author.Tests.{eq-eqb, ne_eqb}
use lib.ListN.{length, get_or}
use Rattle.std.specs.Prelude.{Option}
use Rattle.laws.proofs.Tests.{yes}
use Rattle.capture.specs.Capture.{received_of, received_by}
use Rattle.capture.specs.Numbers.{hex_value}
use Rattle.capture.proofs.Texts.{hex_low}
use Rattle.capture.proofs.received_of.Goals as goal

-- two bytes, by what each says
said : (w : List ℕ) {a b : Option ℕ} → length w ≡ 2 → hex_value (get_or w 0 0) ≡ a → hex_value (get_or w 1 0) ≡ b → received_by a b ≡ received_of w
unfolding received_of
said w l p q = yes _ (eq-eqb _ _ l) (ap₂ received_by (sym p) (sym q))

pub returns-in_default : goal.returns-in_default
unfolding received_of
returns-in_default c = let n : length c.args.word.now ≡ 2 → ⊥ = λ e. omega arith in rw (ne_eqb _ _ n)

pub returns-in_default-2 : goal.returns-in_default-2
unfolding received_of
returns-in_default-2 c = let n : length c.args.word.now ≡ 2 → ⊥ = λ e. omega arith in rw (ne_eqb _ _ n)

pub returns-in_default-hex_value : goal.returns-in_default-hex_value
unfolding received_by
returns-in_default-hex_value c =
    said c.args.word.now {b = hex_value (get_or c.args.word.now 1 0)} (omega arith) (sym c.in_default-hex_value.ensures) refl

pub returns-in_default-hex_value-2 : goal.returns-in_default-hex_value-2
unfolding received_by
returns-in_default-hex_value-2 c =
    said c.args.word.now (omega arith) (sym c.in-Some.ensures) (sym c.in_default-hex_value-2.ensures)

pub overflow_mul-result : goal.overflow_mul-result
overflow_mul-result c = omega (arith, hex_low _ _ (sym c.in-Some.ensures))

pub overflow_add-result : goal.overflow_add-result
overflow_add-result c = omega (arith, hex_low _ _ (sym c.in-Some.ensures), hex_low _ _ (sym c.in-Some-hex_value.ensures))

pub returns : goal.returns
unfolding received_by
returns c = said c.args.word.now (omega arith) (sym c.in-Some.ensures) (sym c.in-Some-hex_value.ensures)
