-- `pointed::put_pointed` meets its contract: the last digit of n is its tenth, and the point with the tenth is written over it. Assumes nothing.
use Prim.Native.Nat.{ℕ, ◌+◌, ◌-◌, ◌/◌, ◌%◌, ◌≤◌, ◌<◌}
use mathlib.Core.Bool.{true, false}
use mathlib.Core.List.{List, [], ◌∷◌, ◌++◌}
use mathlib.Core.Path.{◌≡◌, sym, ap, ◌∙◌}
use native.Mathlib.Numerals.{add-one}
use native.Mathlib.Omega.{arith}
use borrow.Author.Tests.{leb-true, leb-false}
use lib.Dec.{leb}
use lib.ListN.{length, get_or}
use lib.Seq.{get_or-set_same}
use Rattle.laws.specs.Over.{over}
use Rattle.laws.proofs.OverLaws.{over_short, length_over, sets_over, over_next, onto_end}
use Rattle.digits.specs.Digits.{digits, decimal}
use Rattle.digits.proofs.Laws.{length_digits, digits_last}
use Rattle.pointed.specs.Pointed.{point, pointed_text}
use Rattle.pointed.proofs.Exact.{pointed_long}
use Rattle.pointed.proofs.put_pointed.Tie as tie
use Rattle.pointed.proofs.put_pointed.Lts as lts
use Rattle.pointed.proofs.put_pointed.Goals as goal

abbrev Else2 : Type 0
Else2 = lts.Else2 tie.the-claims tie.handed_pre tie.handed_post

-- the byte that a write ended with is read at its place
last_written : (d s : List ℕ) (x a b : ℕ) → a + length s ≡ b → b < length d → get_or (over d a (s ++ (x ∷ []))) b 0 ≡ x
last_written d s x a b e h =
    let k : b < length (over d a s) = rw (length_over d s a) h in
    ap (λ (l : List ℕ). get_or l b 0) (sym (over_next d s (x ∷ []) a b e (omega arith)) ∙ sym (sets_over (over d a s) (x ∷ []) b (omega arith)))
    ∙ get_or-set_same (over d a s) b x 0 k

module _ (d : List ℕ) (at width n : ℕ) where
  short : length d < at + (width + 2) → d ≡ over d at (pointed_text width n)
  short h = sym (over_short d (pointed_text width n) at (rw (pointed_long width n) h))

  no_room : leb (at + width) (length d - 2) ≡ false → d ≡ over d at (pointed_text width n)
  no_room e =
      let k : length d - 2 < at + width = leb-false _ _ e in
      short (omega arith)

  fits : 2 ≤ length d → leb (at + width) (length d - 2) ≡ true → at + (width + 2) ≤ length d
  fits h e =
      let k : at + width ≤ length d - 2 = leb-true _ _ e in
      omega arith

  abbrev whole : List ℕ
  whole = decimal width (n / 10)

  abbrev tenth : ℕ
  tenth = 48 + n % 10

  -- all digits are those of the whole part and the tenth
  all_digits : decimal (width + 1) n ≡ whole ++ (tenth ∷ [])
  all_digits = rw add-one (digits_last 10 48 (omega arith) width n)

  one_digit : tenth ∷ [] ≡ decimal 1 (n % 10)
  unfolding digits
  one_digit = ap (λ (x : ℕ). x ∷ []) (omega arith)

  digits_point : {l1 l2 : List ℕ} → at + (width + 2) ≤ length d → l1 ≡ over d at (decimal (width + 1) n) →
      l2 ≡ over l1 (at + width) (point ∷ get_or l1 (at + width) 0 ∷ []) → l2 ≡ over d at (pointed_text width n)
  digits_point {l1} h p q =
      let b = at + width in
      let l = length_digits 10 48 (omega arith) width (n / 10) in
      let e : l1 ≡ over d at (whole ++ (tenth ∷ [])) = p ∙ ap (over d at) all_digits in
      let x : get_or l1 b 0 ≡ tenth = ap (λ (m : List ℕ). get_or m b 0) e ∙ last_written d whole tenth at b (omega arith) (omega arith) in
      onto_end d whole (tenth ∷ []) (point ∷ tenth ∷ []) at b e (q ∙ ap (λ (y : ℕ). over l1 b (point ∷ y ∷ [])) x) (omega arith) (omega arith) (omega arith)
      ∙ ap (λ (t : List ℕ). over d at (whole ++ (point ∷ t))) one_digit

pub returns-then-out-lt2 : goal.returns-then-out-lt2
returns-then-out-lt2 c = short _ _ _ _ (omega arith)

pub returns-then-not-has_room : goal.returns-then-not-has_room
returns-then-not-has_room c = no_room _ _ _ _ (sym c.has_room.ensures ∙ c.if-not-has_room.true)

-- all of it fits
room : (c : Else2) → c.args.at + (c.args.width + 2) ≤ length c.args.out.now
room c =
    let a = c.args in
    fits a.out.now a.at a.width a.n (omega arith) (sym c.has_room.ensures ∙ c.if-not-has_room.false)

pub overflow_add-width : goal.overflow_add-width
overflow_add-width c = omega (arith, room c.before)

pub overflow_add-tenth : goal.overflow_add-tenth
overflow_add-tenth c = omega (arith, room c.before.before.before.before.before)

pub bounds-out-at : goal.bounds-out-at
bounds-out-at c = omega (arith, room c.before.before.before.before.before.before)

pub overflow_add-at : goal.overflow_add-at
overflow_add-at c = omega (arith, room c.before.before.before.before.before.before)

pub returns : goal.returns
returns c =
    digits_point _ _ _ _ (room c.before.before.before.before.before.before.before.before.before.before) c.put_decimal.ensures c.put_pair.ensures
