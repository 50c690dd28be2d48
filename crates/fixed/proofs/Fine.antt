-- Whether no field is out of range, test by test: what a chain of tests comes to where the lowest is 0. Assumes nothing.
use Prim.Native.Nat.{ℕ, zero, suc}
use mathlib.Core.Bool.{Bool, true, false, ◌&&◌}
use mathlib.Core.List.{List}
use mathlib.Core.Path.{◌≡◌, refl, sym, ap₂, ◌∙◌}
use native.Mathlib.Omega.{arith}
use borrow.Author.Tests.{eq-eqb, ne_eqb}
use lib.Dec.{eqb}
use lib.ListN.{length}
use Rattle.codec.specs.Codec.{failing, first}
use Rattle.fixed.specs.Fixed.{blur_ok}

not_none : (i : ℕ) → eqb (suc i) 0 ≡ false
not_none i = ne_eqb (suc i) 0 (λ e. absurd (omega arith))

one : (ok : Bool) (i : ℕ) → ok ≡ eqb (failing ok (suc i)) 0
unfolding failing
one true i = refl
one false i = sym (not_none i)

two : (a b : ℕ) → (eqb a 0 && eqb b 0) ≡ eqb (first a b) 0
unfolding first
two zero b = refl
two (suc a) b = rw (not_none a)

-- the last field
pub fine_last : {t ok : Bool} (i : ℕ) → t ≡ ok → t ≡ eqb (failing ok (suc i)) 0
fine_last {t} {ok} i e = e ∙ one ok i

-- a group of fields, and those after it
pub fine_group : {t r : Bool} (a rest : ℕ) → t ≡ eqb a 0 → r ≡ eqb rest 0 → (t && r) ≡ eqb (first a rest) 0
fine_group a rest e h = ap₂ ◌&&◌ e h ∙ two a rest

-- a field, and those after it
pub fine_here : {t ok r : Bool} (i rest : ℕ) → t ≡ ok → r ≡ eqb rest 0 → (t && r) ≡ eqb (first (failing ok (suc i)) rest) 0
fine_here {t} {ok} i rest e h = fine_group (failing ok (suc i)) rest (fine_last i e) h

-- the table has its length by its type, so only its circles are tested
pub table_fine : {t : Bool} (s : List ℕ) → length s ≡ 32 → t ≡ blur_ok s → t ≡ (eqb (length s) 32 && blur_ok s)
table_fine s l e = rw (eq-eqb (length s) 32 l) e
