-- Demand 3 in the words of calls: what is answered to receive, and the slots that the calls after it run, a fill counted by the slots it runs. From
-- an accepted start, with no restart between. Statements only.
use Rattle.std.specs.Prelude.{ℕ, zero, suc, ◌+◌, ◌≤◌, true, ◌&&◌, cond, List, [], ◌∷◌, ◌++◌, ◌≢◌, ◌≡◌, ltb, replicate, Option, None, Some, is_some, Ok}
use Rattle.laws.specs.Flat.{flat}
use Rattle.refusal.specs.Answer.{is_done}
use Rattle.machine.specs.Machine.{listed}
use Rattle.fixed.specs.declared.Settings.{Settings}
use Rattle.units.specs.declared.Measurement.{Measurement}
use Rattle.line.specs.declared.Line.{Line}
use Rattle.line.specs.Line.{ends}
use Rattle.state.specs.declared.Last.TheVariants as last
use Rattle.state.specs.declared.Source.{Source}
use Rattle.rules.specs.Does.{does, record_message, continuous}
use Rattle.rules.specs.Lens.{greeting}
use Rattle.port.specs.declared.Port.{Port}
use Rattle.port.specs.Port.{is_reply, act_of, choose_of, slot_of, receive_of, start_of}
use Rattle.walk.specs.View.{waits_of, left_of}
use Rattle.walk.specs.Calls.{Call, receive, slots_once, measure, fill, turn, Held, after, ran, after_all, bytes_all, begun, FromStart}

-- the slots that a call runs, and those of a list of calls
abbrev pub slots_in : Held → Call → ℕ
slots_in h (receive b) = 0
slots_in h slots_once = 1
slots_in h (measure m) = 0
slots_in h (fill n) = ran n h.port
slots_in h (turn t) = 0

unfoldable pub slots_run : Held → List Call → ℕ
slots_run h [] = 0
slots_run h (c ∷ cs) = slots_in h c + slots_run (after h c) cs

-- the same calls slot by slot: a fill as the slots it runs, every other call as it is
abbrev pub singly : Held → Call → List Call
singly h (receive b) = receive b ∷ []
singly h slots_once = slots_once ∷ []
singly h (measure m) = measure m ∷ []
singly h (fill n) = replicate (ran n h.port) slots_once
singly h (turn t) = turn t ∷ []

unfoldable pub by_slots : Held → List Call → List Call
by_slots h [] = []
by_slots h (c ∷ cs) = singly h c ++ by_slots (after h c) cs

-- the line that a call takes: the one that a received byte ended, where the answer is done
abbrev pub taken_by : Held → Call → List Line
taken_by h (receive b) = cond (ends h.line b && is_done (receive_of h.port h.line b).verdict) (h.line ∷ []) []
taken_by h slots_once = []
taken_by h (measure m) = []
taken_by h (fill n) = []
taken_by h (turn t) = []

unfoldable pub taken_all : Held → List Call → List Line
taken_all h [] = []
taken_all h (c ∷ cs) = taken_by h c ++ taken_all (after h c) cs

-- the line that waits, if one does
abbrev pub waits_in : Held → List Line
waits_in h = listed (waits_of h.port.waiting)

-- the line that a call acts on: the one that waited, where it waits no longer (a fill takes no line, so it acts on one at most)
abbrev pub acted_by : Held → Call → List Line
acted_by h c = cond (is_some (after h c).port.waiting) [] (waits_in h)

unfoldable pub acted_all : Held → List Call → List Line
acted_all h [] = []
acted_all h (c ∷ cs) = acted_by h c ++ acted_all (after h c) cs

-- From h, the slot after `mid` acts on l: from it on, to one of the first `limit` slots, the bytes are the reply that the rules give there, whole.
pub record Replied (limit : ℕ) (h : Held) (l : Line) (mid rest : List Call) : Type 0 where
  pub sending : List Call
  pub later : List Call
  pub split : rest ≡ sending ++ later
  pub in_time : slots_run h (mid ++ slots_once ∷ sending) ≤ limit
  pub whole : bytes_all (after_all h mid) (slots_once ∷ sending) ≡ (does (after_all h mid).port.source l).reply

-- From h, in which l waits, one of the first `act_by` slots of the calls acts on it: l waits until then, and that slot is rule 2 of the port.
pub record Acted (act_by reply-by : ℕ) (h : Held) (l : Line) (calls : List Call) : Type 0 where
  pub mid : List Call
  pub rest : List Call
  pub split : calls ≡ mid ++ slots_once ∷ rest
  pub in_time : slots_run h (mid ++ slots_once ∷ []) ≤ act_by
  pub waits : (some others : List Call) → mid ≡ some ++ others → (after_all h some).port.waiting ≡ Some l
  pub acts : slot_of (after_all h mid).port ≡ act_of (after_all h mid).port l
  -- if it has a reply, and the calls go on
  pub replies : reply-by ≤ slots_run h calls → (does (after_all h mid).port.source l).reply ≢ [] → Replied reply-by h l mid rest

-- Continuous sending is on in h and after each of the calls.
abbrev pub StaysOn : Held → List Call → Type 0
StaysOn h calls = (some others : List Call) → calls ≡ some ++ others → continuous (after_all h some).port.source ≡ true

-- From h, one of the first `limit` slots of the calls starts a record: no message is under way, a byte leaves, and that byte and those left after it
-- are the record of the source then, which is now what was sent last.
pub record Recorded (limit : ℕ) (h : Held) (calls : List Call) : Type 0 where
  pub mid : List Call
  pub rest : List Call
  pub split : calls ≡ mid ++ slots_once ∷ rest
  pub in_time : slots_run h (mid ++ slots_once ∷ []) ≤ limit
  pub none_underway : (after_all h mid).port.message.at ≡ (after_all h mid).port.message.len
  pub byte : ℕ
  pub leaves : (slot_of (after_all h mid).port).sent ≡ Ok (Some byte)
  pub whole :
      let p = (slot_of (after_all h mid).port).port in
      byte ∷ left_of p.message ≡ record_message p.source
  pub a_record : (slot_of (after_all h mid).port).port.last ≡ last.Record

-- What rules 1 to 4 give where no message is under way, [] where they give none: 1. the record owed after a reply; 2. the reply to the command that
-- waits; 3. still nothing: a record, where continuous sending is on. 4. Else none.
unfoldable pub else_record : List ℕ → Source → List ℕ
else_record [] s = cond (continuous s) (record_message s) []
else_record (b ∷ bs) s = b ∷ bs

abbrev pub given_to : Source → Option Line → List ℕ
given_to s (Some l) = else_record (does s l).reply (does s l).source
given_to s None = else_record [] s

unfoldable pub given_at : Port → List ℕ
given_at p = cond (continuous p.source && is_reply p.last) (record_message p.source) (given_to p.source p.waiting)

-- the message that a slot starts, if it starts one: none is under way, and the rules give it
abbrev pub if_any : List ℕ → List (List ℕ)
if_any [] = []
if_any (b ∷ bs) = (b ∷ bs) ∷ []

abbrev pub started_at : Port → List (List ℕ)
started_at p = cond (ltb p.message.at p.message.len) [] (if_any (given_at p))

-- the messages that a number of slots start, those that a call starts, and those of a list of calls
unfoldable pub started_over : ℕ → Port → List (List ℕ)
started_over zero p = []
started_over (suc k) p = started_at p ++ started_over k (slot_of p).port

unfoldable pub started_all : Held → List Call → List (List ℕ)
started_all h [] = []
started_all h (c ∷ cs) = started_over (slots_in h c) h.port ++ started_all (after h c) cs

-- Of the messages, the greeting and those that the calls from a start h start, all but the last are whole: the bytes of the calls are theirs, end to end,
-- and then `done`, as much as has left of the last one.
pub record WholeMessages (h : Held) (calls : List Call) : Type 0 where
  pub whole : List (List ℕ)
  pub done : List ℕ
  pub messages : greeting ∷ started_all h calls ≡ whole ++ (done ++ left_of (after_all h calls).port.message) ∷ []
  pub bytes : bytes_all h calls ≡ flat whole ++ done

pub record InCalls (act_by reply-by record_by_lem : ℕ) : Type 0 where
  -- slot by slot, the calls leave the same port and line, hand out the same bytes and run the same slots
  pub same_state : (h : Held) (cs : List Call) → FromStart h → after_all h (by_slots h cs) ≡ after_all h cs
  pub same_bytes : (h : Held) (cs : List Call) → FromStart h → bytes_all h (by_slots h cs) ≡ bytes_all h cs
  pub same_slots : (h : Held) (cs : List Call) → FromStart h → slots_run h (by_slots h cs) ≡ slots_run h cs
  -- "a command taken is acted on, in the order taken,": the line that waits in h and those whose end is answered done are those acted on, each once
  -- and in that order, and then the one that waits
  pub in_order : (h : Held) (cs : List Call) → FromStart h → waits_in h ++ taken_all h cs ≡ acted_all h cs ++ waits_in (after_all h cs)
  -- "at or before the 156th slot after its carriage return, and the last byte of its reply, if it has one, leaves at or before the 233rd."
  pub acted_in_time : (h : Held) (b : ℕ) (cs : List Call) → FromStart h → ends h.line b ≡ true →
      (receive_of h.port h.line b).verdict ≡ Ok tt →
      let h' = after h (receive b) in
      act_by ≤ slots_run h' cs → Acted act_by reply-by h' h.line (by_slots h' cs)
  -- so once the calls have run 156 slots, it is the first line that they acted on
  pub acted_first : (h : Held) (b : ℕ) (cs : List Call) → FromStart h → ends h.line b ≡ true →
      (receive_of h.port h.line b).verdict ≡ Ok tt →
      let h' = after h (receive b) in
      act_by ≤ slots_run h' cs → (more : List Line) × (acted_all h' cs ≡ h.line ∷ more)
  -- "While continuous sending stays on, a new record's first byte leaves at or before the 79th slot after the last byte of the record before.":
  -- counted from any state with no message under way
  pub record_in_time : (h : Held) (cs : List Call) → FromStart h → h.port.message.at ≡ h.port.message.len →
      StaysOn h (by_slots h cs) → record_by_lem ≤ slots_run h cs → Recorded record_by_lem h (by_slots h cs)
  -- "The bytes sent are whole messages end to end, each the one the rules give in the slot it starts; the last may be unfinished."
  pub whole_messages : (old : Port) (l : Line) (s : Settings) (m : Measurement) (cs : List Call) → (start_of old l s m).verdict ≡ Ok tt →
      WholeMessages (begun old l s m) cs
  -- and where no message is under way, a slot is rules 1 to 4 of the port
  pub by_rules : (h : Held) → FromStart h → h.port.message.at ≡ h.port.message.len → slot_of h.port ≡ choose_of h.port

-- Demand 3 in the words of calls: 156, 233 and 79.
abbrev pub Demand3InCalls : Type 0
Demand3InCalls = InCalls 156 233 79
