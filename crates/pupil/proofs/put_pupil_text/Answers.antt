-- `pupil::put_pupil_text` meets its contract: E, and the sign with its digits on from there. Assumes nothing.
use Prim.Native.Nat.{ℕ, ◌+◌, ◌≤◌}
use mathlib.Core.Bool.{false}
use mathlib.Core.List.{List, [], ◌∷◌}
use mathlib.Core.Path.{◌≡◌, refl, sym, ap, ◌∙◌}
use native.Mathlib.Omega.{arith}
use lib.Dec.{leb}
use lib.IntN.{ℤ}
use lib.ListN.{length}
use mir.Facts.{to_z-of_z}
use borrow.Author.Tests.{leb-true, leb-false}
use Rattle.laws.specs.Over.{over}
use Rattle.laws.proofs.OverLaws.{over_short, onto}
use Rattle.sign.specs.Sign.{size}
use Rattle.digits.specs.Digits.{digits, decimal}
use Rattle.pupil.specs.Pupil.{sign_byte, pupil_text}
use Rattle.pupil.proofs.put_pupil_text.Tie as tie
use Rattle.pupil.proofs.put_pupil_text.Lts as lts
use Rattle.pupil.proofs.put_pupil_text.Goals as goal

abbrev Else1 : Type 0
Else1 = lts.Else1 tie.the-claims tie.handed_pre tie.handed_post

module _ (d : List ℕ) (at : ℕ) (z : ℤ) where
  no_room : leb (at + 5) (length d) ≡ false → d ≡ over d at (pupil_text.print z)
  unfolding pupil_text digits
  no_room h = sym (over_short d (pupil_text.print z) at (leb-false (at + 5) (length d) h))

  whole : (s n : ℕ) (l1 l2 : List ℕ) → at + 5 ≤ length d → s ≡ sign_byte z → n ≡ size z →
      l1 ≡ over d at (69 ∷ []) → l2 ≡ over l1 (at + 1) (s ∷ decimal 3 n) → l2 ≡ over d at (pupil_text.print z)
  unfolding pupil_text digits
  whole s n l1 l2 h e f p q = onto d (69 ∷ []) (s ∷ decimal 3 n) at (at + 1) p q refl (omega arith) ∙ rw (e, f)

pub returns-then-not-has_room : goal.returns-then-not-has_room
returns-then-not-has_room c = no_room _ _ _ (sym c.has_room.ensures ∙ c.if-not-has_room.true)

room : (c : Else1) → c.args.at + 5 ≤ length c.args.out.now
room c = leb-true _ _ (sym c.has_room.ensures ∙ c.if-not-has_room.false)

pub overflow_add-at : goal.overflow_add-at
overflow_add-at c = omega (arith, room c.before.before.before.before.before)

pub returns : goal.returns
returns c =
    let same = to_z-of_z c.ranges.e in
    whole _ _ _ _ _ _ _ (room c.before.before.before.before.before.before.before.before.before.before.before) (c.sign_byte.ensures ∙ ap sign_byte same) (c.size_of.ensures ∙ ap size same) c.put_byte.ensures c.put_tagged.ensures
