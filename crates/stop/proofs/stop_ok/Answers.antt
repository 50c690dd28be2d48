-- `stop::stop_ok` meets its contract: past 250 `stop_ok` fails, and up to there what is compared is ten times the tenth of the stop. Assumes nothing.
use Prim.Native.Nat.{ℕ, ◌*◌, ◌/◌, ◌%◌, ◌≤◌, ◌<◌}
use mathlib.Core.Bool.{Bool, false, ◌||◌}
use mathlib.Core.Path.{◌≡◌, sym, ap, ◌∙◌}
use native.Mathlib.Omega.{arith}
use borrow.Author.Tests.{eqb-true, eqb-false, eq-eqb, ne_eqb, le-leb, lt-leb, le-ltb}
use lib.Dec.{ltb, eqb}
use Rattle.laws.proofs.Tests.{told, and_fails_by, and_goes_by}
use Rattle.stop.specs.Stop.{stop_ok}
use Rattle.stop.proofs.stop_ok.Goals as goal

module _ (s : ℕ) where
  past_top : 250 < s → false ≡ stop_ok s
  unfolding stop_ok
  past_top h = rw (le-ltb s 100 (omega arith)) (and_fails_by (eqb (s % 10) 0) (lt-leb s 250 h))

  -- ten times a stop's tenth is the stop where that is a multiple of 10
  tens : (t : ℕ) → t ≡ s / 10 → eqb (t * 10) s ≡ eqb (s % 10) 0
  tens t h =
      told (eqb (s % 10) 0)
      (λ y.
      let z : s % 10 ≡ 0 = eqb-true _ _ y in
      eq-eqb (t * 10) s (omega arith) ∙ sym y)
      (λ n. ne_eqb (t * 10) s (λ e. eqb-false (s % 10) 0 n (omega arith)) ∙ sym n)

  up_to_top : (t : ℕ) → s ≤ 250 → t ≡ s / 10 → ltb s 100 || eqb (t * 10) s ≡ stop_ok s
  unfolding stop_ok
  up_to_top t h e = ap (λ (ok : Bool). ltb s 100 || ok) (and_goes_by (eqb (s % 10) 0) (le-leb s 250 h) (tens t e))

pub returns-then-stop-gt250 : goal.returns-then-stop-gt250
returns-then-stop-gt250 c = past_top _ c.if-stop-gt250.true

pub returns : goal.returns
returns c = up_to_top _ _ c.if-stop-gt250.false (omega arith)
