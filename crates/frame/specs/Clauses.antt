-- What each public function promises: its answer, and what lent memory holds after it.
use Rattle.std.specs.Prelude.{ℕ, ◌+◌, Bool, List, ◌≡◌, take}
use Rattle.laws.specs.Over.{over}
use Rattle.refusal.specs.Answer.{Answer, Verdict}
use Rattle.frame.specs.Frame.{sum_of, ending, ending_width, opening}
use Rattle.frame.specs.Message.{room_for}
use Rattle.frame.specs.declared.Sum.{Sum}

abbrev pub SumOf : List ℕ → Sum → Type 0
SumOf s r = r ≡ sum_of s

abbrev pub EndingWidth : Bool → ℕ → Type 0
EndingWidth checksum r = r ≡ ending_width checksum

abbrev pub RoomFor : ℕ → ℕ → Bool → Answer ℕ → Type 0
RoomFor len width checksum r = r ≡ room_for (width + ending_width checksum) len

abbrev pub PutEnding : List ℕ → ℕ → Bool → List ℕ → Type 0
PutEnding out n checksum after = after ≡ over out n (ending checksum (take n out))

abbrev pub Open : List ℕ → ℕ → Bool → Verdict → Type 0
Open m width checksum r = r ≡ opening checksum width m
