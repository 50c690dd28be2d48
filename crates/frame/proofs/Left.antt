-- What a writer leaves: nothing new where it refuses, else the bytes at the start and the rest as it was. First of anything that has an answer
-- and then writes its contents as n bytes, so of a message of any codec that prints its width. Assumes nothing.
use Prim.Native.Nat.{ℕ}
use mathlib.Core.List.{List, ◌++◌}
use mathlib.Core.Bool.{Bool}
use mathlib.Core.Path.{◌≡◌, refl, sym, ap, ◌∙◌}
use native.Mathlib.Nat.{zero-add}
use native.Mathlib.Omega.{arith}
use borrow.Author.Tests.{eqb-true, leb-true, leb-false}
use lib.Dec.{eqb, leb}
use lib.ListN.{length, drop}
use Rattle.std.specs.Prelude.{Err, Ok}
use Rattle.laws.proofs.OverLaws.{over_fits, over_short}
use Rattle.laws.proofs.Tests.{told, never}
use Rattle.refusal.specs.Answer.{Answer, unless}
use Rattle.refusal.specs.declared.Refusal.{Refusal}
use Rattle.codec.specs.Codec.{Codec}
use Rattle.frame.specs.Message.{message_of, needed, checked, room_for, then_write, then_left, write_of, left_by}
use Rattle.frame.proofs.Exactly.{framed_long}

module _ {A : Type 0} (bytes : A → List ℕ) (n : ℕ) (out : List ℕ) where
  -- a refusal leaves the lent memory as it was
  pub then_same : (answer : Answer A) (r : Refusal) → ((a : A) → answer ≡ Ok a → length (bytes a) ≡ n) → then_write n answer out ≡ Err r → then_left bytes answer out ≡ out
  unfolding then_write then_left room_for unless
  then_same (Err x) r long e = refl
  then_same (Ok a) r long e =
      told (leb n (length out))
      (λ fits. never (cc (rw fits at e)))
      (λ short. over_short out (bytes a) 0 (omega (arith, leb-false n (length out) short, long a refl)))

  -- done: the bytes at the start, their length is the count, and those past it are unchanged
  pub then_bytes : (a : A) (k : ℕ) → length (bytes a) ≡ n → then_write n (Ok a) out ≡ Ok k →
      (k ≡ length (bytes a)) × (then_left bytes (Ok a) out ≡ bytes a ++ drop k out)
  unfolding then_write then_left room_for unless
  then_bytes a k long e =
      told (leb n (length out))
      (λ fits.
      let v : n ≡ k = cc (rw fits at e) in
      let l : k ≡ length (bytes a) = sym v ∙ sym long in (
        l,
        rw l (over_fits out (bytes a) 0 (omega (arith, leb-true n (length out) fits)) ∙ ap (λ (i : ℕ). bytes a ++ drop i out) (zero-add (length (bytes a)))),
      ))
      (λ short. never (cc (rw short at e)))

  -- the same of an answer that was accepted
  pub then_lays : (answer : Answer A) (a : A) (k : ℕ) → answer ≡ Ok a → length (bytes a) ≡ n → then_write n answer out ≡ Ok k → then_left bytes answer out ≡ bytes a ++ drop n out
  then_lays answer a k q long e =
      let b = then_bytes a k long (ap (λ (x : Answer A). then_write n x out) (sym q) ∙ e) in
      ap (λ (x : Answer A). then_left bytes x out) q ∙ b.1 ∙ ap (λ (i : ℕ). bytes a ++ drop i out) (b.0 ∙ long)

module _ {A : Type 0} (c : Codec A) (long : (a : A) → c.lowest a ≡ 0 → length (c.print a) ≡ c.width) (low : ℕ → Refusal) (checksum : Bool) (a : A) (out : List ℕ) where
  -- contents that may be sent are accepted as they are
  checked_is : (b : A) → checked c low a ≡ Ok b → (c.lowest b ≡ 0) × (a ≡ b)
  unfolding checked unless
  checked_is b e =
      told (eqb (c.lowest a) 0)
      (λ y. let p : a ≡ b = cc (rw y at e) in (ap c.lowest (sym p) ∙ eqb-true _ _ y, p))
      (λ n. never (cc (rw n at e)))

  -- and their message is as long as the writer needs
  message_long : (b : A) → checked c low a ≡ Ok b → length (message_of c checksum b) ≡ needed c checksum
  message_long b e = framed_long checksum c.width (c.print b) (long b (checked_is b e).0)

  pub left_same : (r : Refusal) → write_of c low checksum a out ≡ Err r → left_by c low checksum a out ≡ out
  unfolding write_of left_by
  left_same r e = then_same (message_of c checksum) (needed c checksum) out (checked c low a) r message_long e

  pub left_message : (n : ℕ) → write_of c low checksum a out ≡ Ok n →
      (n ≡ length (message_of c checksum a)) × (left_by c low checksum a out ≡ message_of c checksum a ++ drop n out)
  unfolding write_of left_by checked unless then_write
  left_message n e =
      told (eqb (c.lowest a) 0)
      (λ y. rw y (then_bytes (message_of c checksum) (needed c checksum) out a n (framed_long checksum c.width (c.print a) (long a (eqb-true _ _ y))) (rw y at e)))
      (λ f. never (cc (rw f at e)))
