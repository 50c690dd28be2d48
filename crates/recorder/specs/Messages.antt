-- What the recorder makes of a list of messages, and any way to call it over an input.
use Rattle.std.specs.Prelude.{ℕ, Bool, List, [], ◌∷◌, ◌++◌, ◌≡◌, drop, Option, None, Some, Err, Ok}
use Rattle.refusal.specs.Answer.{Answer}
use Rattle.cutter.specs.Stream.{judged}
use Rattle.recorder.specs.Recorder.{reading_of, opens_by, send_of, take_of}
use Rattle.recorder.specs.declared.Setup.{Setup}
use Rattle.recorder.specs.declared.Recorder.{Recorder}
use Rattle.recorder.specs.declared.Reading.{Reading}

-- ---- the messages, one after the other

-- what a message is read as, 9 in place of the reader's answer where it is too long
abbrev pub reading_for : Setup → Bool → List ℕ → Reading
reading_for s opened m = reading_of s opened (judged Ok m)

unfoldable pub readings_from : Setup → Bool → List (List ℕ) → List Reading
readings_from s opened [] = []
readings_from s opened (m ∷ ms) = reading_for s opened m ∷ readings_from s (opens_by opened (reading_for s opened m)) ms

-- whether it is open after them
unfoldable pub open_from : Setup → Bool → List (List ℕ) → Bool
open_from s opened [] = opened
open_from s opened (m ∷ ms) = open_from s (opens_by opened (reading_for s opened m)) ms

-- ---- the calls

-- what a call makes known: one message, or none
unfoldable pub made_by : Answer (Option Reading) → List Reading
made_by (Err x) = []
made_by (Ok None) = []
made_by (Ok (Some x)) = x ∷ []

-- an input taken in pieces of any length, what a call did not use handed in again, and sending between them at any time:
-- from r, the whole input, all that is made known, the recorder left
pub data Ran : Recorder → List ℕ → List Reading → Recorder → Type 0 where
  none : (r : Recorder) → Ran r [] [] r
  sends : (r q : Recorder) (out s : List ℕ) (xs : List Reading) → Ran (send_of r out).recorder s xs q → Ran r s xs q
  takes : (r q : Recorder) (p t s : List ℕ) (xs ys : List Reading) → s ≡ p ++ t → ys ≡ made_by (take_of r p).made ++ xs →
      Ran (take_of r p).recorder (drop (take_of r p).used p ++ t) xs q → Ran r s ys q
