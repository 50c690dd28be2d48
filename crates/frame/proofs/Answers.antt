-- How code that tests in document 01's order answers, case by case, against the definitions of a message's writer and reader. Assumes nothing.
use Prim.Native.Nat.{ℕ, ◌+◌, ◌≤◌, ◌<◌}
use mathlib.Core.List.{List}
use mathlib.Core.Bool.{Bool}
use mathlib.Core.Path.{◌≡◌, sym, ap, ◌∙◌}
use native.Mathlib.Omega.{arith}
use borrow.Author.Tests.{ne_eqb, leb-true, leb-false}
use lib.Dec.{leb}
use lib.ListN.{length, take}
use Rattle.std.specs.Prelude.{Err, Ok}
use Rattle.laws.specs.Over.{over}
use Rattle.laws.proofs.OverLaws.{onto, over_short, take_over}
use Rattle.laws.proofs.Tests.{told, never}
use Rattle.refusal.specs.Answer.{Answer, unless}
use Rattle.refusal.specs.declared.Refusal.{Refusal}
use Rattle.codec.specs.Codec.{Codec}
use Rattle.frame.specs.Frame.{ending, ending_width, opening}
use Rattle.frame.specs.Message.{found, afterwards, read_of, message_of, checked, room_for, then_write, then_left, write_of, left_by, WritesMessage}
use Rattle.frame.proofs.Exactly.{ending_long, framed_long}

-- ---- a writer

-- what the answer says of the room
pub room_fits : {n len : ℕ} (k : ℕ) → (room_for n len) ≡ Ok k → n ≤ len
unfolding room_for unless
room_fits {n} {len} k e =
    told (leb n len)
    (λ y. leb-true n len y)
    (λ f. never (cc (rw f at e)))

room_short : {n len : ℕ} (x : Refusal) → (room_for n len) ≡ Err x → len < n
unfolding room_for unless
room_short {n} {len} x e =
    told (leb n len)
    (λ y. never (cc (rw y at e)))
    (λ f. leb-false n len f)

-- what is left where the room decides the answer: contents of w bytes, and the ending behind them
module _ {A : Type 0} (c : Codec A) (checksum : Bool) (a : A) (d : List ℕ) (w : ℕ) (printed : length (c.print a) ≡ w) {r : Answer ℕ}
    (room : r ≡ (room_for (w + ending_width checksum) (length d))) where
  pub short_left : (x : Refusal) → r ≡ Err x → d ≡ over d 0 (message_of c checksum a)
  short_left x e = sym (over_short d (message_of c checksum a) 0 (omega (arith, framed_long checksum w (c.print a) printed, room_short x (sym room ∙ e))))

  pub done_left : {l1 l2 : List ℕ} (n : ℕ) → r ≡ Ok n → l1 ≡ over d 0 (c.print a) → l2 ≡ over l1 w (ending checksum (take w l1)) → l2 ≡ over d 0 (message_of c checksum a)
  done_left {l1} {l2} n e p q =
      let b = c.print a in
      let h = room_fits n (sym room ∙ e) in
      let t : take w l1 ≡ b = ap (take w) p ∙ take_over d b w printed (omega arith) in
      let k = ending_long checksum b in
      onto d b (ending checksum b) 0 w p (q ∙ ap (λ (s : List ℕ). over l1 w (ending checksum s)) t) (omega (arith, printed)) (omega arith)

module _ {A : Type 0} (c : Codec A) (low : ℕ → Refusal) (checksum : Bool) (a : A) (d : List ℕ) where
  -- 1 or 8: a field or an item out of range
  pub writes_wrong : (i : ℕ) → i ≡ c.lowest a → (i ≡ 0 → ⊥) → WritesMessage c low checksum a d (Err (low i)) d
  unfolding write_of left_by then_write then_left checked unless
  writes_wrong i e n = record { answers = rw (← e, ne_eqb i 0 n); leaves = rw (← e, ne_eqb i 0 n) }

  -- contents that may be sent
  module _ (sendable : c.lowest a ≡ 0) (w : ℕ) (wide : c.width ≡ w) (long : c.lowest a ≡ 0 → length (c.print a) ≡ c.width) {r : Answer ℕ}
      (room : r ≡ (room_for (w + ending_width checksum) (length d))) where
    writes : {after : List ℕ} → after ≡ over d 0 (message_of c checksum a) → WritesMessage c low checksum a d r after
    unfolding write_of left_by then_write then_left checked unless
    writes p = record { answers = rw (sendable, wide) room; leaves = rw sendable p }

    -- 2: the lent memory is too short
    pub writes_short : (x : Refusal) → r ≡ Err x → WritesMessage c low checksum a d r d
    writes_short x e = writes (short_left c checksum a d w (long sendable ∙ wide) room x e)

    -- the contents, and the ending behind them
    pub writes_done : {l1 l2 : List ℕ} (n : ℕ) → r ≡ Ok n → l1 ≡ over d 0 (c.print a) → l2 ≡ over l1 w (ending checksum (take w l1)) → WritesMessage c low checksum a d r l2
    writes_done n e p q = writes (done_left c checksum a d w (long sendable ∙ wide) room n e p q)

-- ---- a reader

module _ {A : Type 0} (c : Codec A) (w : ℕ) (wide : c.width ≡ w) (checksum : Bool) (m : List ℕ) where
  -- 3, 4 or 5
  pub reads_refused : (r : Refusal) → opening checksum w m ≡ Err r → read_of c checksum m ≡ Err r
  unfolding read_of afterwards
  reads_refused r e = rw (wide, e)

  -- what the contents hold
  pub reads_on : opening checksum w m ≡ Ok tt → read_of c checksum m ≡ found (c.parse (take w m))
  unfolding read_of afterwards
  reads_on e = rw (wide, e)
