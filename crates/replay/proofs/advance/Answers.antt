-- `replay::advance` is safe, and takes no more than the input: the call keeps within its piece and its memory. Assumes nothing.
use Rattle.std.specs.Prelude.{Err, Ok}
use Rattle.std.specs.Result.{result_unwrap_or}
use Rattle.std.proofs.Common.{ℕ, ◌≡◌, ◌-◌, ◌≤◌, List, length, drop, refl, sym, ap, subst, ◌∙◌, arith}
use lib.ListN.{length-drop}
use lib.Seq.{length-take-le}
use Rattle.refusal.specs.Answer.{Answer}
use Rattle.follow.specs.Follow.{take_of}
use Rattle.follow.specs.declared.Follower.{Follower}
use Rattle.follow.specs.declared.Followed.{Followed}
use Rattle.follow.proofs.Each.{within, fits}
use Rattle.replay.proofs.advance.Goals as goal

-- what was taken is a part of the piece
used_low : (f : Follower) (piece out : List ℕ) {r : Followed} → r ≡ take_of f piece out → r.used ≤ length piece
used_low f piece out e = subst (λ (x : Followed). x.used ≤ length piece) (sym e) (within f piece out)

-- what was printed fits the memory
counted : (f : Follower) (piece out : List ℕ) {r : Followed} {n : ℕ} → r ≡ take_of f piece out → n ≡ result_unwrap_or r.wrote 0 → n ≤ length out
counted f piece out {r} {n} e c = by_case r.wrote refl
  where
    by_case : (w : Answer ℕ) → r.wrote ≡ w → n ≤ length out
    by_case (Ok k) q =
        let k-is : n ≡ k = c ∙ ap (λ (v : Answer ℕ). result_unwrap_or v 0) q in
        subst (λ (j : ℕ). j ≤ length out) (sym k-is) (fits f piece out k (sym (ap (λ (x : Followed). x.wrote) e) ∙ q))
    by_case (Err x) q = let z : n ≡ 0 = c ∙ ap (λ (v : Answer ℕ). result_unwrap_or v 0) q in omega arith

pub overflow_add-result : goal.overflow_add-result
overflow_add-result g c =
    let out = c.args.out.now in
    let at = c.place-at.result in
    let n = counted _ _ _ c.take-followed.ensures.answers c.unwrap_or.ensures in
    record { fits = omega (arith, n, length-take-le (length out - at) (drop at out) (simp length-drop (omega arith)), c.requires, c.place-at.ensures) }

pub returns : goal.returns
returns g c = used_low _ _ _ c.take-followed.ensures.answers
