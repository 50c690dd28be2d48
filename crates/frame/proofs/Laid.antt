-- A message laid at the start of lent memory, case by case, and what such a call tells. Assumes nothing.
use Prim.Native.Nat.{ℕ}
use mathlib.Core.List.{List}
use mathlib.Core.Path.{◌≡◌, refl, sym, ◌∙◌}
use lib.ListN.{length}
use Rattle.std.specs.Prelude.{Err, Ok}
use Rattle.laws.specs.Over.{over}
use Rattle.laws.proofs.Tests.{never}
use Rattle.refusal.specs.Answer.{Answer}
use Rattle.refusal.specs.declared.Refusal.{Refusal}
use Rattle.frame.specs.Laid.{Laid}
use Rattle.frame.specs.Message.{room_for, then_write, then_left, Moves}
use Rattle.frame.proofs.Left.{then_same, then_lays}
use Rattle.frame.proofs.Rooms.{then_accepted, accepted_then, then_refused, refused_then}

module _ (n : ℕ) (out : List ℕ) where
  -- where the room decides the answer
  pub moved : (message : List ℕ) {w : Answer ℕ} {after : List ℕ} → w ≡ (room_for n (length out)) → after ≡ over out 0 message → Moves n (Ok message) out w after
  unfolding then_write then_left
  moved message e p = record { answers = e; leaves = p }

  pub not_moved : (x : Refusal) → Moves n (Err x) out (Err x) out
  unfolding then_left then_write
  not_moved x = record { answers = refl; leaves = refl }

  -- the same at the exit of a `?`
  pub exits_unmoved : {x : Refusal} {w : Answer ℕ} → w ≡ Err x → Moves n (Err x) out w out
  exits_unmoved {x} e = rw e (not_moved x)

  pub moves_by : {a b : Answer (List ℕ)} {w : Answer ℕ} {after : List ℕ} → a ≡ b → Moves n b out w after → Moves n a out w after
  moves_by e p = rw e p

-- what the code answers tells the answer
count_is : (a : Answer ℕ) (k : ℕ) → a ≡ Ok k → a ≡ Ok k
count_is (Ok n) k e = cc
count_is (Err x) k e = never (cc)

no_count : (a : Answer ℕ) (x : Refusal) → a ≡ Err x → a ≡ Err x
no_count (Ok n) x e = never (cc)
no_count (Err y) x e = cc

pub laid : (n : ℕ) (message : Answer (List ℕ)) (out : List ℕ) {w : Answer ℕ} {after : List ℕ} → ((l : List ℕ) → message ≡ Ok l → length l ≡ n) → Moves n message out w after →
    Laid n message out w after
laid n message out long call =
    let answer = then_write n message out in
    record {
      refuses = λ x. (
        λ e. then_refused n message out x (no_count answer x (sym call.answers ∙ e)),
        λ h. call.answers ∙ (refused_then n message out x h),
      );
      does = λ k. (
        λ e. then_accepted n message out k (count_is answer k (sym call.answers ∙ e)),
        λ h. call.answers ∙ (accepted_then n message out k h),
      );
      refused_same = λ x e. call.leaves ∙ then_same (λ l. l) n out message x long (no_count answer x (sym call.answers ∙ e));
      lays = λ l k q e. call.leaves ∙ then_lays (λ l. l) n out message l k q (long l q) (count_is answer k (sym call.answers ∙ e));
    }
