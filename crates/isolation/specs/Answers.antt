-- What a port of the box answers, and what it then is, call by call.
use Rattle.std.specs.Prelude.{ℕ, zero, suc, cond, List, [], ◌∷◌, ◌++◌, Option, None, Some, Result, Ok, Err}
use Rattle.refusal.specs.Answer.{Verdict}
use Rattle.refusal.specs.declared.Refusal.{Refusal}
use Rattle.line.specs.declared.Line.{Line}
use Rattle.port.specs.declared.Port.{Port}
use Rattle.port.specs.declared.Handed.{Handed}
use Rattle.port.specs.declared.Received.{Received}
use Rattle.port.specs.declared.Slotted.{Slotted}
use Rattle.port.specs.Port.{slot_of, receive_of, measure_of}
use Rattle.fill.specs.declared.Filled.{Filled}
use Rattle.fill.specs.Fill.{fill_of}
use Rattle.walk.specs.Calls.{Held}
use Rattle.walk.specs.View.{bytes_of}
use Rattle.connectors.specs.declared.Side.{Side}
use Rattle.connectors.specs.Connectors.{start_both}
use Rattle.isolation.specs.Calls.{Both, held_at, Asked, receive, slots_once, measure, fill, Call, restart, on, is_own, after}

-- what a slot sends: a byte or none, or the refusal
abbrev pub Sent : Type 0
Sent = Result (Option ℕ) Refusal

-- the slots that a fill of so many bytes comes to, one by one, up to the first that sends nothing (where 16 refuses the fill, one that is refused)
abbrev pub as_long : Sent → List Slotted → List Slotted
as_long (Ok (Some b)) xs = xs
as_long (Ok None) xs = []
as_long (Err r) xs = []

unfoldable pub slots_filled : ℕ → Port → List Slotted
slots_filled zero p = []
slots_filled (suc n) p = slot_of p ∷ as_long (slot_of p).sent (slots_filled n (slot_of p).port)

-- to a restart a port answers the verdict and what it then is; to the rest what the base's port hands back, a fill's slots too
pub data Answer : Type 0 where
  started : Verdict → Held → Answer
  received : Received → Answer
  slotted : Slotted → Answer
  measured : Handed → Answer
  filled : Filled → List Slotted → Answer

abbrev pub answered : Held → Asked → Answer
answered h (receive b) = received (receive_of h.port h.line b)
answered h slots_once = slotted (slot_of h.port)
answered h (measure m) = measured (measure_of h.port m)
answered h (fill n) = filled (fill_of h.port n) (slots_filled n h.port)

-- what one port answers to the calls that are its own
abbrev pub answer_to : Side → Both → Call → Answer
answer_to a h (restart s camera external) =
    started (start_both h.connectors h.lines s camera external).verdict (held_at (after h (restart s camera external)) a)
answer_to a h (on n q) = answered (held_at h a) q

unfoldable pub answers_at : Side → Both → List Call → List Answer
answers_at a h [] = []
answers_at a h (c ∷ cs) = cond (is_own a c) (answer_to a h c ∷ []) [] ++ answers_at a (after h c) cs

-- of an answer what never hangs on the letter: its verdict, with the line or the count that it has
pub data Told : Type 0 where
  with_line_lem : Verdict → Line → Told
  with_count : Verdict → ℕ → Told
  alone : Verdict → Told
  nothing : Told

abbrev pub told_by : Answer → Told
told_by (started v h) = with_line_lem v h.line
told_by (received r) = with_line_lem r.verdict r.line
told_by (slotted x) = nothing
told_by (measured r) = alone r.verdict
told_by (filled f xs) = with_count f.verdict f.count

-- the bytes in an answer
unfoldable pub bytes_of_all : List Slotted → List ℕ
bytes_of_all [] = []
bytes_of_all (x ∷ xs) = bytes_of x.sent ++ bytes_of_all xs

abbrev pub answer_bytes : Answer → List ℕ
answer_bytes (started v h) = []
answer_bytes (received r) = []
answer_bytes (slotted x) = bytes_of x.sent
answer_bytes (measured r) = []
answer_bytes (filled f xs) = bytes_of_all xs

unfoldable pub all_bytes : List Answer → List ℕ
all_bytes [] = []
all_bytes (x ∷ xs) = answer_bytes x ++ all_bytes xs
