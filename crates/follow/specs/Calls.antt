-- A replay as its calls: those of whoever lends the text, and those of the port that the lines come to.
use Rattle.std.specs.Prelude.{ℕ, ◌+◌, ◌-◌, ◌*◌, Bool, cond, List, [], ◌∷◌, ◌++◌, ◌≡◌, ltb, leb, eqb, take, replicate, Ok}
use Rattle.walk.specs.Calls.{Call, receive, slots_once, measure, Held}
use Rattle.capture.specs.Words.{before, space}
use Rattle.capture.specs.Capture.{event_of}
use Rattle.capture.specs.declared.Event.{Event}
use Rattle.capture.specs.declared.Event.TheVariants.{Received, Slots, Measured, Other}
use Rattle.printed.specs.Printed.{LF}
use Rattle.telling.specs.Telling.{is_over, slots_left, tell_of}
use Rattle.telling.specs.declared.Run.{Run}
use Rattle.runs.specs.Runs.{count_both, count_both_leaves}
use Rattle.follow.specs.Follow.{begins_with, take_of, take_leaves, close_of, close_leaves}
use Rattle.follow.specs.declared.Follower.{Follower}

-- ---- whoever lends the text

-- calls from f to g, each with any piece and any memory that was not refused: the bytes they used, end to end, and what they printed
pub data Fed : Follower → List ℕ → List ℕ → Follower → Type 0 where
  no_more : {f : Follower} → Fed f [] [] f
  next : (f : Follower) (piece out : List ℕ) (n : ℕ) (s t : List ℕ) (g : Follower) → (take_of f piece out).wrote ≡ Ok n →
      Fed (take_of f piece out).follower s t g →
      Fed f (take (take_of f piece out).used piece ++ s) (take n (take_leaves f piece out) ++ t) g

-- a start, any calls over the whole input, the end of the text, and the last line
pub record Replays (letter : ℕ) (ports : Bool) (input text : List ℕ) : Type 0 where
  pub accepted : (begins_with letter ports).verdict ≡ Ok tt
  pub left : Follower
  pub told : List ℕ
  pub fed : Fed (begins_with letter ports).follower input told left
  pub room : List ℕ
  pub closed : ℕ
  pub closes : (close_of left room).wrote ≡ Ok closed
  pub last_room : List ℕ
  pub counted : ℕ
  pub counts : count_both (close_of left room).follower.runs last_room ≡ Ok counted
  pub printed : text ≡ told ++ (take closed (close_leaves left room) ++ take counted (count_both_leaves (close_of left room).follower.runs last_room))

-- ---- the port's calls

abbrev pub held_by : Run → Held
held_by r = record { port = r.port; line = r.line }

abbrev pub calls_by : Run → Event → List Call
calls_by r (Received b) = receive b ∷ []
calls_by r (Slots n) = replicate (slots_left r n) slots_once
calls_by r (Measured m) = measure m ∷ []
calls_by r Other = []

-- the calls of an event, and of lines; a run that is over makes none
unfoldable pub calls_of : Run → Event → List Call
calls_of r e = cond (is_over r) [] (calls_by r e)

unfoldable pub calls_in : Run → List (List ℕ) → List Call
calls_in r [] = []
calls_in r (l ∷ ls) = calls_of r (event_of l) ++ calls_in (tell_of r (event_of l)).run ls

-- ---- the bytes that a printed text shows

-- 0..9, a..f
unfoldable pub digit_shown : ℕ → ℕ
digit_shown c = cond (ltb c 58) (c - 48) (c - 87)

-- two hex digits are a byte, two dashes (45) none
unfoldable pub shown_by : ℕ → ℕ → List ℕ
shown_by a b = cond (eqb a 45) [] ((16 * digit_shown a + digit_shown b) ∷ [])

-- a line of slots: two characters and what stands behind them, again and again
unfoldable pub shown_in : List ℕ → List ℕ
shown_in [] = []
shown_in (a ∷ []) = []
shown_in (a ∷ b ∷ []) = []
shown_in (a ∷ b ∷ c ∷ s) = shown_by a b ++ shown_in s

-- `refused` and `slots` are words of more than two characters: such a line shows none
unfoldable pub shown_line : List ℕ → List ℕ
shown_line l = cond (leb (before space l) 2) (shown_in (l ++ LF ∷ [])) []

unfoldable pub shown : List (List ℕ) → List ℕ
shown [] = []
shown (l ∷ ls) = shown_line l ++ shown ls
