-- What each public function promises: its answer, and what lent memory holds after it.
use Rattle.std.specs.Prelude.{ℕ, Bool, List, ◌≡◌}
use Rattle.laws.specs.Gives.{Gives}
use Rattle.follow.specs.Follow.{begins_with, valid_follower, take_of, take_leaves, close_of, close_leaves}
use Rattle.follow.specs.declared.Follower.{Follower}
use Rattle.follow.specs.declared.Begun.{Begun}
use Rattle.follow.specs.declared.Followed.{Followed}

abbrev pub FollowerStart : ℕ → Bool → Begun → Type 0
FollowerStart letter ports r = r ≡ begins_with letter ports

abbrev pub FollowerIsValid : Follower → Bool → Type 0
FollowerIsValid self r = r ≡ valid_follower self

abbrev pub FollowerTake : Follower → List ℕ → List ℕ → Followed → List ℕ → Type 0
FollowerTake self piece out r after = Gives (take_of self piece out) (take_leaves self piece out) r after

abbrev pub FollowerClose : Follower → List ℕ → Followed → List ℕ → Type 0
FollowerClose self out r after = Gives (close_of self out) (close_leaves self out) r after
