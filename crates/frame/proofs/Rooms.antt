-- What is written where there is room: an answer, by what was accepted or refused before and by the room. Assumes nothing.
use Prim.Native.Nat.{ℕ, ◌+◌, ◌≤◌, ◌<◌}
use mathlib.Core.Bool.{Bool, false}
use mathlib.Core.List.{List}
use mathlib.Core.Logic.{◌⊎◌, inl, inr}
use mathlib.Core.Path.{◌≡◌, refl, sym, ap, ◌∙◌}
use native.Mathlib.Omega.{arith}
use borrow.Author.Tests.{leb-true, leb-false, le-leb, lt-leb}
use lib.Dec.{leb}
use lib.ListN.{length, take}
use Rattle.std.specs.Prelude.{Err, Ok}
use Rattle.laws.specs.Over.{over}
use Rattle.laws.proofs.OverLaws.{over_short}
use Rattle.laws.proofs.Tests.{told, never}
use Rattle.refusal.specs.Answer.{Answer, unless}
use Rattle.refusal.specs.declared.Refusal.{Refusal}
use Rattle.refusal.specs.declared.Refusal.TheVariants.{Room}
use Rattle.frame.specs.Frame.{ending, ending_width}
use Rattle.frame.specs.Message.{room_for, then_write}
use Rattle.frame.proofs.Exactly.{ending_long}

pub room_enough : (n len : ℕ) → n ≤ len → room_for n len ≡ Ok n
unfolding room_for unless
room_enough n len h = rw (le-leb n len h)

pub room_short : (n len : ℕ) → len < n → room_for n len ≡ Err (Room n)
unfolding room_for unless
room_short n len h = rw (lt-leb n len h)

-- an ending that there is no room for
pub no_room : (d : List ℕ) (n : ℕ) (checksum : Bool) (e : ℕ) → e ≡ ending_width checksum → leb (n + e) (length d) ≡ false → d ≡ over d n (ending checksum (take n d))
no_room d n checksum e p h =
    let k : length d < n + e = leb-false _ _ h in
    sym (over_short d (ending checksum (take n d)) n (omega (arith, ending_long checksum (take n d))))

module _ {A : Type 0} (width : ℕ) where
  -- what is done was accepted, and has room
  pub then_accepted : (q : Answer A) (out : List ℕ) (n : ℕ) → then_write width q out ≡ Ok n → (a : A) × (q ≡ Ok a) × (width ≤ length out) × (n ≡ width)
  unfolding then_write room_for unless
  then_accepted (Ok a) out n e =
      told (leb width (length out))
      (λ y. (a, refl, leb-true width (length out) y, cc (rw y at e)))
      (λ f. never (cc (rw f at e)))
  then_accepted (Err x) out n e = never (cc)

  pub accepted_then : (q : Answer A) (out : List ℕ) (n : ℕ) → (a : A) × (q ≡ Ok a) × (width ≤ length out) × (n ≡ width) → then_write width q out ≡ Ok n
  unfolding then_write
  accepted_then q out n (a, k, h, l) = ap (λ (p : Answer A). then_write width p out) k ∙ room_enough width (length out) h ∙ ap Ok (sym l)

  -- what is refused was, or is accepted without room
  pub then_refused : (q : Answer A) (out : List ℕ) (x : Refusal) → then_write width q out ≡ Err x →
      (q ≡ Err x) ⊎ ((x ≡ Room width) × (length out < width) × ((a : A) × (q ≡ Ok a)))
  unfolding then_write room_for unless
  then_refused (Err y) out x e = inl (let s : y ≡ x = cc in ap Err s)
  then_refused (Ok a) out x e =
      told (leb width (length out))
      (λ y. never (cc (rw y at e)))
      (λ n. inr (cc (rw n at e), leb-false width (length out) n, (a, refl)))

  pub refused_then : (q : Answer A) (out : List ℕ) (x : Refusal) → (q ≡ Err x) ⊎ ((x ≡ Room width) × (length out < width) × ((a : A) × (q ≡ Ok a))) →
      then_write width q out ≡ Err x
  unfolding then_write
  refused_then q out x (inl k) = ap (λ (p : Answer A). then_write width p out) k
  refused_then q out x (inr (k, h, (a, l))) = ap (λ (p : Answer A). then_write width p out) l ∙ room_short width (length out) h ∙ ap Err (sym k)
