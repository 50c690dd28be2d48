-- A text of a length, and a text as an item of a length: a text of another length leaves zeros, which no text holds. Assumes nothing.
use Prim.Native.Nat.{ℕ, zero, suc, ◌+◌}
use mathlib.Core.Bool.{Bool, true, false}
use mathlib.Core.List.{List, ◌++◌, append-nil}
use mathlib.Core.Path.{◌≡◌, refl, sym, ap, ◌∙◌}
use native.Mathlib.Omega.{arith}
use borrow.Author.Tests.{eq-eqb, eqb-true}
use lib.Dec.{eqb}
use lib.ListN.{length, replicate, length-replicate, drop_of_length-le}
use Rattle.laws.specs.Every.{every}
use Rattle.laws.specs.Over.{over}
use Rattle.laws.proofs.Tests.{told, cond_yes, and_left, and_right}
use Rattle.laws.proofs.OverLaws.{over_fits}
use Rattle.codec.specs.Codec.{printable, text_ok, filled}

module _ (n : ℕ) (s : List ℕ) where
  pub text_long : text_ok n s ≡ true → length s ≡ n
  unfolding text_ok
  text_long e = eqb-true (length s) n (and_left (eqb (length s) n) (printable s) e)

  pub text_printable : text_ok n s ≡ true → printable s ≡ true
  unfolding text_ok
  text_printable e = and_right (eqb (length s) n) (printable s) e

  -- of a text that has its length only the bytes are tested
  pub text_fine : {t : Bool} → length s ≡ n → t ≡ printable s → t ≡ text_ok n s
  unfolding text_ok
  text_fine l e = rw (eq-eqb (length s) n l) e

  pub filled_whole : length s ≡ n → filled n s ≡ s
  filled_whole l = cond_yes s (replicate n 0) (eq-eqb (length s) _ (l ∙ sym (length-replicate n 0)))

printable_spaces : (n : ℕ) → printable (replicate n 32) ≡ true
unfolding every
printable_spaces zero = refl
printable_spaces (suc n) = printable_spaces n

-- spaces are a text
pub spaces_fine : (n : ℕ) → text_ok n (replicate n 32) ≡ true
spaces_fine n = sym (text_fine n (replicate n 32) (length-replicate n 32) (sym (printable_spaces n)))

-- what is written as an item is out of range where the text is
pub filled_ok : (n : ℕ) (s : List ℕ) → text_ok (suc n) (filled (suc n) s) ≡ text_ok (suc n) s
unfolding text_ok every
filled_ok n s =
    let zeros : List ℕ = replicate (suc n) 0 in
    let long : length zeros ≡ suc n = length-replicate (suc n) 0 in
    told (eqb (length s) (length zeros))
    (λ y. ap (text_ok (suc n)) (cond_yes s zeros y))
    (λ x. let other : eqb (length s) (suc n) ≡ false = ap (eqb (length s)) (sym long) ∙ x in rw (x, other, eq-eqb (length zeros) (suc n) long))

-- a text as long as its memory is all that is left there
pub over_whole_lem : (d s : List ℕ) → length s ≡ length d → over d 0 s ≡ s
over_whole_lem d s l =
    over_fits d s 0 (omega arith) ∙ ap (λ (r : List ℕ). s ++ r) (drop_of_length-le d {i = 0 + length s} (omega arith)) ∙ append-nil s
