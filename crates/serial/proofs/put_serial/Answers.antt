-- `serial::put_serial` meets its contract: S, and the text on from there. Assumes nothing.
use Prim.Native.Nat.{ℕ, ◌+◌, ◌≤◌}
use mathlib.Core.Bool.{false}
use mathlib.Core.List.{List, [], ◌∷◌}
use mathlib.Core.Path.{◌≡◌, refl, sym, ◌∙◌}
use native.Mathlib.Omega.{arith}
use lib.Dec.{leb}
use lib.ListN.{length}
use borrow.Author.Tests.{leb-true, leb-false}
use Rattle.laws.specs.Over.{over}
use Rattle.laws.proofs.OverLaws.{over_short, onto}
use Rattle.record.specs.Forms.{serial}
use borrow.Author.Rules.{rules}
use Rattle.serial.proofs.put_serial.Tie as tie
use Rattle.serial.proofs.put_serial.Lts as lts
use Rattle.serial.proofs.put_serial.Goals as goal

abbrev Else1 : Type 0
Else1 = lts.Else1 tie.the-claims tie.handed_pre tie.handed_post

abbrev Start : Type 0
Start = lts.Start tie.the-claims tie.handed_pre tie.handed_post

-- nine bytes, by type
nine : (b : Start) → length b.args.text ≡ 9
nine b = search rules

module _ (d text : List ℕ) (at : ℕ) (l : length text ≡ 9) where
  no_room : leb (at + 10) (length d) ≡ false → d ≡ over d at (serial.print text)
  unfolding serial
  no_room h = sym (over_short d (serial.print text) at (omega (arith, leb-false (at + 10) (length d) h)))

  whole : (l1 l2 : List ℕ) → at + 10 ≤ length d → l1 ≡ over d at (83 ∷ []) → l2 ≡ over l1 (at + 1) text → l2 ≡ over d at (serial.print text)
  unfolding serial
  whole l1 l2 h p q = onto d (83 ∷ []) text at (at + 1) p q refl (omega arith)

pub returns-then-not-has_room : goal.returns-then-not-has_room
returns-then-not-has_room c = no_room _ _ _ (nine c.before.before.before.before) (sym c.has_room.ensures ∙ c.if-not-has_room.true)

room : (c : Else1) → c.args.at + 10 ≤ length c.args.out.now
room c = leb-true _ _ (sym c.has_room.ensures ∙ c.if-not-has_room.false)

pub overflow_add-at : goal.overflow_add-at
overflow_add-at c = omega (arith, room c.before.before.before.before.before)

pub returns : goal.returns
returns c =
    whole _ _ _ (nine c.before.before.before.before.before.before.before.before.before.before.before.before.before) _ _ (room c.before.before.before.before.before.before.before.before.before.before) c.put_byte.ensures c.put_text.ensures
