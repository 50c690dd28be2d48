-- One answer, and one content of lent memory, for each contract of this crate. Assumes nothing.
use Prim.Native.Nat.{ℕ}
use mathlib.Core.Bool.{Bool}
use mathlib.Core.List.{List}
use mathlib.Core.Path.{◌≡◌}
use Rattle.laws.proofs.OneAnswer.{one_answer, one_outcome}
use Rattle.follow.specs.Clauses.{FollowerStart, FollowerIsValid, FollowerTake, FollowerClose}
use Rattle.follow.specs.declared.Follower.{Follower}
use Rattle.follow.specs.declared.Begun.{Begun}
use Rattle.follow.specs.declared.Followed.{Followed}

pub one_start : (letter : ℕ) (ports : Bool) {r r' : Begun} → FollowerStart letter ports r → FollowerStart letter ports r' → r ≡ r'
one_start letter ports = one_answer

pub one_is_valid : (self : Follower) {r r' : Bool} → FollowerIsValid self r → FollowerIsValid self r' → r ≡ r'
one_is_valid self = one_answer

pub one_take : (self : Follower) (piece out : List ℕ) {r r' : Followed} {after after' : List ℕ} →
    FollowerTake self piece out r after → FollowerTake self piece out r' after' → (r ≡ r') × (after ≡ after')
one_take self piece out = one_outcome

pub one_close : (self : Follower) (out : List ℕ) {r r' : Followed} {after after' : List ℕ} →
    FollowerClose self out r after → FollowerClose self out r' after' → (r ≡ r') × (after ≡ after')
one_close self out = one_outcome
