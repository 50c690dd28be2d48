-- `codec::put_tagged` meets its contract: the tag, and the digits on from where it ended. Assumes nothing.
use Prim.Native.Nat.{ℕ, ◌+◌, ◌-◌, ◌≤◌, ◌<◌}
use mathlib.Core.Bool.{true, false}
use mathlib.Core.List.{List, [], ◌∷◌}
use mathlib.Core.Path.{◌≡◌, refl, sym, ◌∙◌}
use native.Mathlib.Omega.{arith}
use borrow.Author.Tests.{leb-true, leb-false}
use lib.Dec.{leb}
use lib.ListN.{length}
use Rattle.laws.specs.Over.{over}
use Rattle.laws.proofs.OverLaws.{over_short, onto}
use Rattle.digits.specs.Digits.{decimal}
use Rattle.digits.proofs.Laws.{length_digits}
use Rattle.codec.proofs.put_tagged.Tie as tie
use Rattle.codec.proofs.put_tagged.Lts as lts
use Rattle.codec.proofs.put_tagged.Goals as goal

abbrev Else2 : Type 0
Else2 = lts.Else2 tie.the-claims tie.handed_pre tie.handed_post

module _ (d : List ℕ) (at t width n : ℕ) where
  long : length (decimal width n) ≡ width
  long = length_digits 10 48 (omega arith) width n

  short : length d < at + (1 + width) → d ≡ over d at (t ∷ decimal width n)
  short h = sym (over_short d (t ∷ decimal width n) at (omega (arith, long)))

  no_room : 0 < length d → leb (at + width) (length d - 1) ≡ false → d ≡ over d at (t ∷ decimal width n)
  no_room h e =
      let k : length d - 1 < at + width = leb-false _ _ e in
      short (omega arith)

  fits : 0 < length d → leb (at + width) (length d - 1) ≡ true → at + (1 + width) ≤ length d
  fits h e =
      let k : at + width ≤ length d - 1 = leb-true _ _ e in
      omega arith

  tag_and_digits : (l1 l2 : List ℕ) → at + (1 + width) ≤ length d → l1 ≡ over d at (t ∷ []) → l2 ≡ over l1 (at + 1) (decimal width n) → l2 ≡ over d at (t ∷ decimal width n)
  tag_and_digits l1 l2 h p q = onto d (t ∷ []) (decimal width n) at (at + 1) p q refl (omega (arith, long))

pub returns-then-out-eq0 : goal.returns-then-out-eq0
returns-then-out-eq0 c = short _ _ _ _ _ (omega arith)

pub returns-then-not-has_room : goal.returns-then-not-has_room
returns-then-not-has_room c = no_room _ _ _ _ _ (omega arith) (sym c.before.has_room.ensures ∙ c.if-not-has_room.true)

-- the tag and its digits fit
room : (c : Else2) → c.args.at + (1 + c.args.width) ≤ length c.args.out.now
room c =
    let a = c.args in
    fits a.out.now a.at a.tag a.width a.n (omega arith) (sym c.has_room.ensures ∙ c.if-not-has_room.false)

pub overflow_add-at : goal.overflow_add-at
overflow_add-at c = omega (arith, room c.before.before.before.before.before)

pub returns : goal.returns
returns c =
    let digits = c.before.before.before in
    let tag = digits.before.before.before.before in
    let e = tag.before.before in
    tag_and_digits _ _ _ _ _ _ _ (room e) tag.put_byte.ensures digits.put_decimal.ensures
