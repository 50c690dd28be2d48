-- What a replay promises: the whole text that it prints is the definition's for the whole text in, however the pieces fall; what it shows is what the
-- port's calls send, of which demand 3 is proved. Statements only.
use Rattle.std.specs.Prelude.{ℕ, ◌+◌, ◌≤◌, ◌<◌, Bool, true, false, List, [], ◌∷◌, ◌++◌, ◌↔◌, ◌⊎◌, ◌≢◌, ◌≡◌, length, take, replicate, Err, Ok}
use Rattle.refusal.specs.Answer.{Answer}
use Rattle.machine.specs.Machine.{slots, sent, start}
use Rattle.machine.specs.Promised.{Promised}
use Rattle.refusal.specs.declared.Refusal.{Refusal}
use Rattle.refusal.specs.declared.Refusal.TheVariants as refusal
use Rattle.rules.specs.Lens.{lens}
use Rattle.rules.specs.Promise.{act_by, reply_by, record_by}
use Rattle.walk.specs.Calls.{receive, slots_once, measure, after, after_all, bytes_all, events_all, FromStart}
use Rattle.walk.specs.InCalls.{slots_run}
use Rattle.units.specs.declared.Measurement.{Measurement}
use Rattle.follow.specs.Clauses.{FollowerStart, FollowerTake, FollowerClose}
use Rattle.follow.specs.declared.Begun.{Begun}
use Rattle.follow.specs.declared.Followed.{Followed}
use Rattle.capture.specs.Words.{before}
use Rattle.capture.specs.Capture.{event_of}
use Rattle.capture.specs.declared.Event.TheVariants.{Received, Slots, Measured, Other}
use Rattle.printed.specs.Printed.{LF, refused_text, slots_line}
use Rattle.telling.specs.Telling.{start_with, is_over, tell_of}
use Rattle.telling.specs.declared.Run.{Run}
use Rattle.runs.specs.Clauses.{RunsCount, RunsIsOver}
use Rattle.runs.specs.Runs.{valid_runs, are_over, tell_at, count_both, count_both_leaves}
use Rattle.runs.specs.declared.Runs.{Runs}
use Rattle.follow.specs.Replay.{lines, tell_all, replay_with, replay_of}
use Rattle.follow.specs.Follow.{begins_with, valid_follower, event_in, event_held, take_of, take_leaves, close_of, close_leaves}
use Rattle.follow.specs.Calls.{Replays, held_by, calls_in, shown}
use Rattle.follow.specs.declared.Follower.{Follower}

-- ---- the lines of a text

-- no LF in it
abbrev pub Unbroken : List ℕ → Type 0
Unbroken l = before LF l ≡ length l

pub record OfLines : Type 0 where
  -- "Lines end with LF; the last may lack it"
  pub none : lines [] ≡ []
  pub ended : (l s : List ℕ) → Unbroken l → lines (l ++ LF ∷ s) ≡ l ∷ lines s
  pub last : (b : ℕ) (l : List ℕ) → Unbroken (b ∷ l) → lines (b ∷ l) ≡ (b ∷ l) ∷ []

-- ---- the whole text

pub record WholeText : Type 0 where
  -- over any calls, "the whole text out is the definition's for the whole text in": without `ports`
  pub replays : (letter : ℕ) (input text : List ℕ) → Replays letter false input text → text ≡ replay_with (start_with letter).run input
  -- and there are such calls for every input, whatever it is
  pub always : (letter : ℕ) (input : List ℕ) → (start_with letter).verdict ≡ Ok tt → Replays letter false input (replay_with (start_with letter).run input)
  -- line by line, and last the slots
  pub no_line : (r : Run) → tell_all r [] ≡ record { text = []; run = r }
  pub line : (r : Run) (l : List ℕ) (ls : List (List ℕ)) →
      let t = tell_of r (event_of l) in
      tell_all r (l ∷ ls) ≡ record { text = t.text ++ (tell_all t.run ls).text; run = (tell_all t.run ls).run }
  pub last_line : (r : Run) (input : List ℕ) → replay_with r input ≡ (tell_all r (lines input)).text ++ slots_line (tell_all r (lines input)).run.slots
  -- the session program's start-up letter, I
  pub letter : (input : List ℕ) → replay_of input ≡ replay_with (start_with 73).run input
  -- "Input `S 4` alone prints `3c 0a 0d --` and `slots 4`", empty input `slots 0`
  pub four : replay_of (0x53 ∷ 0x20 ∷ 0x34 ∷ []) ≡
      0x33 ∷ 0x63 ∷ 0x20 ∷ 0x30 ∷ 0x61 ∷ 0x20 ∷ 0x30 ∷ 0x64 ∷ 0x20 ∷ 0x2D ∷ 0x2D ∷ 0x0A ∷ 0x73 ∷ 0x6C ∷ 0x6F ∷ 0x74 ∷ 0x73 ∷ 0x20 ∷ 0x34 ∷ 0x0A ∷ []
  pub empty : replay_of [] ≡ 0x73 ∷ 0x6C ∷ 0x6F ∷ 0x74 ∷ 0x73 ∷ 0x20 ∷ 0x30 ∷ 0x0A ∷ []

-- ---- what the lines come to

pub record OfTheCalls : Type 0 where
  -- a start that is accepted is one of the port's
  pub from_start : (letter : ℕ) → (start_with letter).verdict ≡ Ok tt → FromStart (held_by (start_with letter).run)
  -- an event is the port's call
  pub on_received : (r : Run) (b : ℕ) → is_over r ≡ false → held_by (tell_of r (Received b)).run ≡ after (held_by r) (receive b)
  pub on_measured : (r : Run) (m : Measurement) → is_over r ≡ false → held_by (tell_of r (Measured m)).run ≡ after (held_by r) (measure m)
  pub on_slots : (r : Run) (n : ℕ) → is_over r ≡ false → r.slots + n ≤ 100000 → held_by (tell_of r (Slots n)).run ≡ after_all (held_by r) (replicate n slots_once)
  -- the port and its line are those of the calls
  pub states : (r : Run) (ls : List (List ℕ)) → held_by (tell_all r ls).run ≡ after_all (held_by r) (calls_in r ls)
  -- "the number is the machine's `slots` of the events"
  pub number : (r : Run) (ls : List (List ℕ)) → (tell_all r ls).run.slots ≡ r.slots + slots (events_all (held_by r) (calls_in r ls))
  pub by_calls : (r : Run) (ls : List (List ℕ)) → (tell_all r ls).run.slots ≡ r.slots + slots_run (held_by r) (calls_in r ls)
  -- the bytes that the text shows are those that the calls send
  pub bytes : (letter : ℕ) (input : List ℕ) → (start_with letter).verdict ≡ Ok tt →
      let r = (start_with letter).run in
      shown (lines (replay_with r input)) ≡ bytes_all (held_by r) (calls_in r (lines input))
  -- and so the machine's, of which demand 3 is proved: 156, 233 and 79
  pub sends : (letter : ℕ) (input : List ℕ) → (start_with letter).verdict ≡ Ok tt →
      let r = (start_with letter).run in
      shown (lines (replay_with r input)) ≡ sent (start lens r.port.source) (events_all (held_by r) (calls_in r (lines input)))
  pub demand3 : (letter : ℕ) → (start_with letter).verdict ≡ Ok tt → Promised lens act_by reply_by record_by (start_with letter).run.port.source
  -- no more than 100,000 slots are run
  pub at_most : (r : Run) (ls : List (List ℕ)) → r.slots ≤ 100000 → (tell_all r ls).run.slots ≤ 100000
  -- "10 .. prints `refused 10`, then `slots`, and ends the run"; lines before it are told as ever, and lines behind it are not looked at
  pub other : (r : Run) (before l : List (List ℕ)) (line : List ℕ) → event_of line ≡ Other → is_over (tell_all r before).run ≡ false →
      (tell_all r (before ++ line ∷ l)).text ≡ (tell_all r before).text ++ refused_text refusal.Form
  pub other_slots : (r : Run) (before l : List (List ℕ)) (line : List ℕ) → event_of line ≡ Other → is_over (tell_all r before).run ≡ false →
      (tell_all r (before ++ line ∷ l)).run.slots ≡ (tell_all r before).run.slots
  -- after the run's end, by 10 or by its last slot, no line is looked at
  pub over : (r : Run) (before l : List (List ℕ)) → is_over (tell_all r before).run ≡ true → tell_all r (before ++ l) ≡ tell_all r before

-- ---- a call

pub record EachCall : Type 0 where
  -- a start answers as the run's, and a close leaves no line to be told again
  pub begins : (letter : ℕ) (ports : Bool) → (begins_with letter ports).verdict ≡ (start_with letter).verdict
  pub close_once : (f : Follower) (out : List ℕ) (n : ℕ) → (close_of f out).wrote ≡ Ok n → ((close_of f out).used ≡ 0) × ((close_of f out).follower.text.len ≡ 0)
  -- 16 exactly for runs or a count of bytes that is none of ours
  pub take_16 : (f : Follower) (piece out : List ℕ) →
      ((take_of f piece out).wrote ≡ Err refusal.State) ↔ ((valid_runs f.runs ≡ false) ⊎ (138 < f.text.len))
  -- then 2, exactly where a line ends and its text is longer than the lent memory, with its length
  pub take_2 : (f : Follower) (piece out : List ℕ) (n : ℕ) →
      ((take_of f piece out).wrote ≡ Err (refusal.Room n)) ↔
      ((valid_follower f ≡ true) × (before LF piece < length piece) ×
      (length out < length (tell_at f.runs (event_in f (take (before LF piece) piece))).text) ×
      (n ≡ length (tell_at f.runs (event_in f (take (before LF piece) piece))).text))
  -- a refusal uses no byte and changes nothing
  pub take_same : (f : Follower) (piece out : List ℕ) (x : Refusal) → (take_of f piece out).wrote ≡ Err x →
      ((take_of f piece out).used ≡ 0) × ((take_of f piece out).follower ≡ f) × (take_leaves f piece out ≡ out)
  pub close_same : (f : Follower) (out : List ℕ) (x : Refusal) → (close_of f out).wrote ≡ Err x →
      ((close_of f out).follower ≡ f) × (close_leaves f out ≡ out)
  -- a close is refused in the same cases
  pub close_16 : (f : Follower) (out : List ℕ) → ((close_of f out).wrote ≡ Err refusal.State) ↔ ((valid_runs f.runs ≡ false) ⊎ (138 < f.text.len))
  pub close_2 : (f : Follower) (out : List ℕ) (n : ℕ) →
      ((close_of f out).wrote ≡ Err (refusal.Room n)) ↔
      ((valid_follower f ≡ true) × (f.text.len ≢ 0) × (length out < length (tell_at f.runs (event_held f)).text) ×
      (n ≡ length (tell_at f.runs (event_held f)).text))
  pub close_goes_on : (f : Follower) (out : List ℕ) → valid_follower f ≡ true → 2997 ≤ length out → (n : ℕ) × ((close_of f out).wrote ≡ Ok n)
  pub close_valid : (f : Follower) (out : List ℕ) → valid_follower f ≡ true → valid_follower (close_of f out).follower ≡ true
  -- no call uses more than its piece or prints more than the memory holds; one that is not refused uses some of its piece
  pub within : (f : Follower) (piece out : List ℕ) → (take_of f piece out).used ≤ length piece
  pub fits : (f : Follower) (piece out : List ℕ) (n : ℕ) → (take_of f piece out).wrote ≡ Ok n → n ≤ length out
  pub uses_some : (f : Follower) (piece out : List ℕ) (n : ℕ) → (take_of f piece out).wrote ≡ Ok n → 0 < length piece → 0 < (take_of f piece out).used
  -- with room for 999 slots a follower of ours is not refused, and stays one
  pub goes_on : (f : Follower) (piece out : List ℕ) → valid_follower f ≡ true → 2997 ≤ length out → (n : ℕ) × ((take_of f piece out).wrote ≡ Ok n)
  pub kept_valid : (f : Follower) (piece out : List ℕ) → valid_follower f ≡ true → valid_follower (take_of f piece out).follower ≡ true

-- ---- the calls are the entries: what each contract leaves

pub record Entries : Type 0 where
  pub start : (letter : ℕ) (ports : Bool) (r : Begun) → FollowerStart letter ports r → r ≡ begins_with letter ports
  pub take : (f : Follower) (piece out : List ℕ) (r : Followed) (after : List ℕ) → FollowerTake f piece out r after →
      (r ≡ take_of f piece out) × (after ≡ take_leaves f piece out)
  pub close : (f : Follower) (out : List ℕ) (r : Followed) (after : List ℕ) → FollowerClose f out r after → (r ≡ close_of f out) × (after ≡ close_leaves f out)
  pub count : (r : Runs) (out : List ℕ) (w : Answer ℕ) (after : List ℕ) → RunsCount r out w after → (w ≡ count_both r out) × (after ≡ count_both_leaves r out)
  pub is_over_lem : (r : Runs) (b : Bool) → RunsIsOver r b → b ≡ are_over r
