-- `stop::read_stop_text` meets its contract: each `return` is a case of `read_stop_text`. Assumes nothing.
use Prim.Native.Nat.{ℕ, ◌*◌, ◌≤◌, ◌<◌}
use mathlib.Core.Path.{◌≡◌, refl, sym, ap, ◌∙◌}
use native.Mathlib.Omega.{arith}
use borrow.Author.Tests.{eq-eqb, ne_eqb, le-leb, lt-leb}
use mathlib.Core.List.{List}
use lib.ListN.{length, take, get_or, length-take}
use Rattle.std.specs.Prelude.{None, Option, Some}
use Rattle.laws.proofs.Tests.{yes, no}
use Rattle.digits.specs.Digits.{read_decimal}
use Rattle.digits.proofs.Laws.{digits_read}
use Rattle.stop.specs.Stop.{read_tens, read_stop_text}
use Rattle.stop.proofs.read_stop_text.Goals as goal

pub returns-then-s-ne3 : goal.returns-then-s-ne3
unfolding read_stop_text
returns-then-s-ne3 c = no _ (ne_eqb _ _ c.if-s-ne3.true) refl

pub returns-then-s-eq46 : goal.returns-then-s-eq46
unfolding read_stop_text
returns-then-s-eq46 c =
    yes _ (eq-eqb _ _ c.if-s-ne3.false) (yes _ (eq-eqb _ _ c.if-s-eq46.true) c.read_pointed.ensures)

pub returns-then-s-ne46 : goal.returns-then-s-ne46
unfolding read_stop_text
returns-then-s-ne46 c =
    yes _ (eq-eqb _ _ c.if-s-ne3.false) (no _ (ne_eqb _ _ c.if-s-eq46.false) (no _ (ne_eqb _ _ c.if-s-ne46.true) refl))

-- a point behind two bytes
ended : (s : List ℕ) {f : Option ℕ} → length s ≡ 3 → (get_or s 1 0 ≡ 46 → ⊥) → get_or s 2 0 ≡ 46 → read_decimal 25 (take 2 s) ≡ f → read_tens f ≡ read_stop_text s
unfolding read_stop_text
ended s l n y p = yes _ (eq-eqb _ _ l) (no _ (ne_eqb _ _ n) (yes _ (eq-eqb _ _ y) (ap read_tens (sym p))))

below : (n : ℕ) → n < 10 → None ≡ read_tens (Some n)
unfolding read_tens
below n h = no _ (lt-leb 10 n h) refl

found : (n : ℕ) → 10 ≤ n → Some (n * 10) ≡ read_tens (Some n)
unfolding read_tens
found n h = yes _ (le-leb 10 n h) refl

pub slice_bounds-read_decimal-end : goal.slice_bounds-read_decimal-end
slice_bounds-read_decimal-end c = simp length-take (omega arith)

pub returns-in_err-n : goal.returns-in_err-n
unfolding read_tens
returns-in_err-n c =
    c.from_residual.ensures ∙ ended _ c.if-s-ne3.false c.if-s-eq46.false c.if-s-ne46.false (sym c.read_decimal.ensures ∙ c.in_err-n.was)

pub returns-then-n-lt10 : goal.returns-then-n-lt10
returns-then-n-lt10 c =
    below _ (omega arith) ∙ ended _ c.if-s-ne3.false c.if-s-eq46.false c.if-s-ne46.false (sym c.read_decimal.ensures ∙ c.in_ok-n.was)

pub overflow_mul-result : goal.overflow_mul-result
overflow_mul-result c = omega (arith, (digits_read 10 48 (omega arith) _ _ 25 (sym c.read_decimal.ensures ∙ c.in_ok-n.was)).0)

pub returns : goal.returns
returns c = found _ (omega arith) ∙ ended _ c.if-s-ne3.false c.if-s-eq46.false c.if-s-ne46.false (sym c.read_decimal.ensures ∙ c.in_ok-n.was)
