-- `frame::put_ending` meets its contract: the checksum, and LF CR on from where it ended. Assumes nothing.
use Prim.Native.Nat.{ℕ, ◌+◌, ◌-◌, ◌≤◌}
use mathlib.Core.Bool.{Bool, true, false}
use mathlib.Core.List.{List, [], ◌∷◌}
use mathlib.Core.Path.{◌≡◌, refl, sym, ap, ◌∙◌}
use native.Mathlib.Nat.{sub-zero}
use native.Mathlib.Omega.{arith}
use borrow.Author.Tests.{leb-true, not-true, not-false}
use lib.Dec.{leb}
use lib.ListN.{length, take}
use Rattle.laws.specs.Over.{over}
use Rattle.laws.proofs.OverLaws.{onto}
use Rattle.frame.specs.Frame.{sum_of, ending, ending_width}
use Rattle.frame.specs.declared.Sum.{Sum}
use Rattle.frame.proofs.Rooms.{no_room}
use Rattle.frame.proofs.put_ending.Tie as tie
use Rattle.frame.proofs.put_ending.Lts as lts
use Rattle.frame.proofs.put_ending.Goals as goal

abbrev Else2 : Type 0
Else2 = lts.Else2 tie.the-claims tie.handed_pre tie.handed_post

module _ (d : List ℕ) (n : ℕ) where
  plain : (checksum : Bool) {l : List ℕ} → checksum ≡ false → l ≡ over d n (10 ∷ 13 ∷ []) → l ≡ over d n (ending checksum (take n d))
  unfolding ending
  plain checksum off p = rw off p

  room : (checksum : Bool) (e : ℕ) → e ≡ ending_width checksum → leb (n + e) (length d) ≡ true → checksum ≡ true → n + 4 ≤ length d
  room checksum e p h on =
      let k : n + e ≤ length d = leb-true _ _ h in
      let f : e ≡ 4 = p ∙ ap ending_width on in
      omega arith

  summed : (checksum : Bool) (s : Sum) {l1 l2 : List ℕ} → checksum ≡ true → n + 4 ≤ length d → s ≡ sum_of (take (n - 0) d) →
      l1 ≡ over d n (s.high ∷ s.low ∷ []) → l2 ≡ over l1 (n + 2) (10 ∷ 13 ∷ []) → l2 ≡ over d n (ending checksum (take n d))
  unfolding ending
  summed checksum s on fits e p q = rw (on, ← (e ∙ ap (λ (k : ℕ). sum_of (take k d)) (sub-zero n))) (onto d (s.high ∷ s.low ∷ []) (10 ∷ 13 ∷ []) n (n + 2) p q refl (omega arith))

pub returns-then-not-has_room : goal.returns-then-not-has_room
returns-then-not-has_room c =
    no_room _ _ _ _ c.ending_width.ensures (sym c.has_room.ensures ∙ c.if-not-has_room.true)

pub returns-then-not-checksum : goal.returns-then-not-checksum
returns-then-not-checksum c =
    let a = c.args in
    plain _ _ _ (not-true a.checksum c.if-not-checksum.true-raw) c.put_pair.ensures

-- with the checksum on, four bytes fit
on_room : (c : Else2) → c.args.n + 4 ≤ length c.args.out.now
on_room c =
    let a = c.args in
    room a.out.now a.n a.checksum _ c.ending_width.ensures (sym c.has_room.ensures ∙ c.if-not-has_room.false) (not-false a.checksum c.if-not-checksum.false-raw)

pub overflow_add-n : goal.overflow_add-n
overflow_add-n c = omega (arith, on_room c.before.before.before.before.before.before.before)

pub returns : goal.returns
returns c =
    let a = c.args in
    summed _ _ _ _ (not-false a.checksum c.if-not-checksum.false-raw) (on_room c.before.before.before.before.before.before.before.before.before.before.before) c.sum_of-sum.ensures c.put_pair-2.ensures c.put_pair-3.ensures
