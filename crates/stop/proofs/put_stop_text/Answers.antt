-- `stop::put_stop_text` meets its contract: below 100 a number with a point; else three digits, and the point in the place of the third. Assumes nothing.
use Prim.Native.Nat.{ℕ, ◌+◌, ◌/◌, ◌%◌, ◌≤◌, ◌<◌}
use mathlib.Core.List.{List, [], ◌∷◌}
use mathlib.Core.Path.{◌≡◌, sym, ap, ◌∙◌}
use native.Mathlib.Omega.{arith}
use borrow.Author.Tests.{leb-true, leb-false}
use lib.ListN.{length}
use Rattle.laws.specs.Over.{over}
use Rattle.laws.proofs.OverLaws.{over_short, onto_end}
use Rattle.digits.specs.Digits.{decimal}
use Rattle.digits.proofs.Laws.{length_digits, digits_last}
use Rattle.pointed.specs.Pointed.{point}
use Rattle.stop.specs.Stop.{stop_text}
use Rattle.stop.proofs.Exact.{low_text, high_text, stop_long}
use Rattle.stop.proofs.put_stop_text.Tie as tie
use Rattle.stop.proofs.put_stop_text.Lts as lts
use Rattle.stop.proofs.put_stop_text.Goals as goal

abbrev Else2 : Type 0
Else2 = lts.Else2 tie.the-claims tie.handed_pre tie.handed_post

module _ (d : List ℕ) (at s : ℕ) where
  short : length d < at + 3 → d ≡ over d at (stop_text s)
  short h = sym (over_short d (stop_text s) at (rw (stop_long s) h))

  digits_point : {l1 l2 : List ℕ} → 100 ≤ s → at + 3 ≤ length d → l1 ≡ over d at (decimal 3 s) →
      l2 ≡ over l1 (at + 2) (point ∷ []) → l2 ≡ over d at (stop_text s)
  digits_point k h p q =
      let l = length_digits 10 48 (omega arith) 2 (s / 10) in
      onto_end d (decimal 2 (s / 10)) ((48 + s % 10) ∷ []) (point ∷ []) at (at + 2) (p ∙ ap (over d at) (digits_last 10 48 (omega arith) 2 s)) q
      (omega arith) (omega arith) (omega arith)
      ∙ ap (over d at) (sym (high_text s k))

pub returns-then-stop-lt100 : goal.returns-then-stop-lt100
returns-then-stop-lt100 c =
    c.put_pointed.ensures ∙ ap (over _ _) (sym (low_text _ c.if-stop-lt100.true))

pub returns-then-not-has_room : goal.returns-then-not-has_room
returns-then-not-has_room c = short _ _ _ (leb-false _ _ (sym c.has_room.ensures ∙ c.if-not-has_room.true))

-- the three characters fit
room : (c : Else2) → c.args.at + 3 ≤ length c.args.out.now
room c = leb-true _ _ (sym c.has_room.ensures ∙ c.if-not-has_room.false)

pub overflow_add-at : goal.overflow_add-at
overflow_add-at c = omega (arith, room c.before.before.before.before.before)

pub returns : goal.returns
returns c =
    digits_point _ _ _ c.if-stop-lt100.false (room c.before.before.before.before.before.before.before.before.before) c.put_decimal.ensures c.put_byte.ensures
