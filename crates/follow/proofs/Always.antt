-- There are calls for every input: with room for 999 slots none is refused, and each uses some of what is left. Assumes nothing.
use Prim.Native.Nat.{ℕ, zero, suc, ◌≤◌}
use mathlib.Core.Bool.{Bool, true}
use mathlib.Core.List.{List, [], ◌∷◌, ◌++◌}
use mathlib.Core.Path.{◌≡◌, refl, subst}
use native.Mathlib.Omega.{arith}
use lib.ListN.{length, take, drop, replicate, length-drop, take-append-drop}
use Rattle.std.specs.Prelude.{Ok}
use Rattle.laws.proofs.Tests.{and_both, and_left}
use Rattle.telling.proofs.Events.{short_line}
use Rattle.runs.specs.Runs.{start_runs, valid_runs}
use Rattle.runs.proofs.Promises as runs
use Rattle.follow.specs.Both.{replay_both}
use Rattle.follow.specs.Calls.{Fed, no_more, next, Replays}
use Rattle.follow.specs.Follow.{begins_with, valid_follower, take_of, take_leaves, close_of}
use Rattle.follow.specs.declared.Follower.{Follower}
use Rattle.follow.proofs.EachCall.{each_call}
use Rattle.follow.proofs.Whole.{replays}

abbrev room : List ℕ
room = replicate 3000 0

-- what is left of the input, fed piece by piece
record Feeds (f : Follower) (s : List ℕ) : Type 0 where
  to : Follower
  told : List ℕ
  fed : Fed f s told to
  valid : valid_follower to ≡ true

feeds_by : (fuel : ℕ) → ((g : Follower) (t : List ℕ) → length t ≤ fuel → valid_follower g ≡ true → Feeds g t) →
    (f : Follower) (s : List ℕ) → length s ≤ suc fuel → valid_follower f ≡ true → Feeds f s
feeds_by fuel more f [] h v = record { to = f; told = []; fed = no_more; valid = v }
feeds_by fuel more f (b ∷ s) h v =
    let n = each_call.goes_on f (b ∷ s) room v (omega arith) in
    let some = each_call.uses_some f (b ∷ s) room n.0 n.1 (omega arith) in
    let u = (take_of f (b ∷ s) room).used in
    let i = more (take_of f (b ∷ s) room).follower (drop u (b ∷ s)) (simp length-drop (omega arith)) (each_call.kept_valid f (b ∷ s) room v) in
    record {
      to = i.to;
      told = take n.0 (take_leaves f (b ∷ s) room) ++ i.told;
      fed = subst (λ (x : List ℕ). Fed f x (take n.0 (take_leaves f (b ∷ s) room) ++ i.told) i.to) (take-append-drop u (b ∷ s))
          (next f (b ∷ s) room n.0 _ _ _ n.1 i.fed);
      valid = i.valid;
    }

feeds : (fuel : ℕ) (f : Follower) (s : List ℕ) → length s ≤ fuel → valid_follower f ≡ true → Feeds f s
feeds zero f s h v = none s h
  where
    none : (t : List ℕ) → length t ≤ 0 → Feeds f t
    none [] k = record { to = f; told = []; fed = no_more; valid = v }
    none (b ∷ t) k = absurd (omega arith)
feeds (suc fuel) f s h v = feeds_by fuel (feeds fuel) f s h v

pub always : (letter : ℕ) (ports : Bool) (input : List ℕ) → (start_runs letter).verdict ≡ Ok tt →
    Replays letter ports input (replay_both ports (start_runs letter).runs input)
always letter ports input d =
    let v = and_both ((runs.each_call).start_valid letter d) refl in
    let i = feeds (length input) (begins_with letter ports).follower input (omega arith) v in
    let c = each_call.close_goes_on i.to room i.valid (omega arith) in
    let w = and_left (valid_runs (close_of i.to room).follower.runs) _ (each_call.close_valid i.to room i.valid) in
    let k = (runs.each_call).count_done (close_of i.to room).follower.runs room w (short_line _) in
    let p : Replays letter ports input _ =
    record { accepted = d; left = i.to; told = i.told; fed = i.fed; room = room; closed = c.0; closes = c.1; last_room = room; counted = _; counts = k.0; printed = refl } in
    subst (Replays letter ports input) (replays letter ports input _ p) p
