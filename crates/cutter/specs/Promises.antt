-- What the cutter promises beside its exact answer: statements only.
use Rattle.std.specs.Prelude.{ℕ, ◌≤◌, ◌<◌, Bool, true, false, cond, List, [], ◌∷◌, ◌++◌, ◌↔◌, ◌≡◌, eqb, length, replicate, take, drop, get_or, None, Some, Err, Ok}
use Rattle.laws.specs.Flat.{flat}
use Rattle.refusal.specs.Answer.{Answer}
use Rattle.refusal.specs.declared.Refusal.{Refusal}
use Rattle.refusal.specs.declared.Refusal.TheVariants.{Room, TooLong, State}
use Rattle.frame.specs.Refuses.{Ended}
use Rattle.cutter.specs.Cutter.{cutter_length, fresh, valid_cutter, held_from, held_message, closes, invalid, nothing, ended, cut_of}
use Rattle.cutter.specs.Cutter.{end_from, end_in, hold_of, left_by_said, whole_left, cut_answer}
use Rattle.cutter.specs.Stream.{last_of, messages_from, messages, tail, judged, judged_all, Fed, FedTo}
use Rattle.cutter.specs.declared.Cutter.{Cutter}

-- ---- the list of messages

-- no LF CR pair in s, behind the byte a
unfoldable pub free_from : ℕ → List ℕ → Bool
free_from a [] = true
free_from a (b ∷ s) = cond (closes (eqb a 10) b) false (free_from b s)

abbrev pub free : List ℕ → Bool
free = free_from 0

-- a message has its one pair at its end
pub record IsMessage (m : List ℕ) : Type 0 where
  pub front : List ℕ
  pub is : m ≡ front ++ 13 ∷ []
  pub lf : last_of 0 front ≡ 10
  pub one : free front ≡ true

pub data AllMessages : List (List ℕ) → Type 0 where
  no_more : AllMessages []
  first : {m : List ℕ} {ms : List (List ℕ)} → IsMessage m → AllMessages ms → AllMessages (m ∷ ms)

-- messages and a tail without a pair that make up an input
pub record Splits (s : List ℕ) (ms : List (List ℕ)) (t : List ℕ) : Type 0 where
  pub whole : flat ms ++ t ≡ s
  pub each : AllMessages ms
  pub rest : free t ≡ true

pub record OneList : Type 0 where
  -- messages and tail joined are the input, each message has its one pair at its end and the tail has none
  pub splits : (s : List ℕ) → Splits s (messages s) (tail s)
  -- and only one list does this
  pub only : (s : List ℕ) (ms : List (List ℕ)) (t : List ℕ) → Splits s ms t → (ms ≡ messages s) × (t ≡ tail s)
  -- "nothing before it touches what follows"
  pub forgets : (s t : List ℕ) → tail s ≡ [] → (messages (s ++ t) ≡ messages s ++ messages t) × (tail (s ++ t) ≡ tail t)

-- ---- the calls over an input

-- an input can be handed in
pub record Run {A : Type 0} (read : List ℕ → Answer A) (c : Cutter) (s : List ℕ) : Type 0 where
  pub said : List (Answer A)
  pub left : Cutter
  pub fed : Fed read c s said left

-- each message judged by the reader that was named in the call in which it ended
pub data Judges {N A : Type 0} (read : N → List ℕ → Answer A) : List (N × Answer A) → List (List ℕ) → Type 0 where
  no_more : Judges read [] []
  next : (n : N) (m : List ℕ) (js : List (N × Answer A)) (ms : List (List ℕ)) → Judges read js ms → Judges read ((n, judged (read n) m) ∷ js) (m ∷ ms)

-- a cutter that has the bytes x since the last end, whatever its other bytes are
pub record Has (x : List ℕ) (c : Cutter) : Type 0 where
  pub long : length c.bytes ≡ 160
  pub few : length x ≤ 160 → (c.len ≡ length x) × (take (length x) c.bytes ≡ x)
  pub many : 160 < length x → (c.len ≡ 161) × (get_or c.bytes 159 0 ≡ last_of 0 x)

pub record AnyCutting : Type 1 where
  -- from any cutter, by the bytes that it has
  pub resumed : {A : Type 0} (read : List ℕ → Answer A) (x : List ℕ) (c : Cutter) (s : List ℕ) (js : List (Answer A)) (d : Cutter) → Has x c →
      Fed read c s js d → js ≡ judged_all read (messages_from x s)
  -- over any cutting into pieces the answers are those of the list
  pub answers : {A : Type 0} (read : List ℕ → Answer A) (s : List ℕ) (js : List (Answer A)) (d : Cutter) → Fed read fresh s js d → js ≡ judged_all read (messages s)
  -- the cutter after it is that of the whole input
  pub left : {A : Type 0} (read : List ℕ → Answer A) (s : List ℕ) (js : List (Answer A)) (d : Cutter) → Fed read fresh s js d → d ≡ held_from fresh (tail s)
  -- "cutting the input elsewhere changes no answer", from any cutter
  pub elsewhere : {A : Type 0} (read : List ℕ → Answer A) (c : Cutter) (s : List ℕ) (js ks : List (Answer A)) (d e : Cutter) → valid_cutter c ≡ true →
      Fed read c s js d → Fed read c s ks e → (js ≡ ks) × (d ≡ e)
  -- the reader named with a call does not touch where messages end
  pub named : {N A : Type 0} (read : N → List ℕ → Answer A) (s : List ℕ) (js : List (N × Answer A)) (d : Cutter) → FedTo read fresh s js d →
      Judges read js (messages s) × (d ≡ held_from fresh (tail s))
  -- every input can be handed in
  pub runs : {A : Type 0} (read : List ℕ → Answer A) (c : Cutter) (s : List ℕ) → valid_cutter c ≡ true → Run read c s

-- ---- one call

pub record EachCall : Type 0 where
  -- "16 covers the cutter too": exactly for a count that is none of its own
  pub refused : (c : Cutter) (p : List ℕ) → ((cut_of c p).said ≡ invalid) ↔ (161 < c.len)
  -- then it is as it was, and no byte is used
  pub refused_same : (c : Cutter) (p : List ℕ) → (cut_of c p).said ≡ invalid → ((cut_of c p).cutter ≡ c) × ((cut_of c p).used ≡ 0)
  -- "right after an ended pair the cutter is as a fresh one", whatever is answered: "a message refused at its end is used up like any other"
  pub after_end : (c : Cutter) (p : List ℕ) (m : Answer (List ℕ)) → (cut_of c p).said ≡ ended m → (cut_of c p).cutter ≡ fresh
  -- a call without an end holds all of its piece
  pub unfinished : (c : Cutter) (p : List ℕ) → (cut_of c p).said ≡ nothing → ((cut_of c p).cutter ≡ held_from c p) × ((cut_of c p).used ≡ length p)
  -- no call uses more than its piece, and one that is not refused some of it
  pub within : (c : Cutter) (p : List ℕ) → (cut_of c p).used ≤ length p
  pub uses_some : (c : Cutter) (p : List ℕ) → valid_cutter c ≡ true → 0 < length p → 0 < (cut_of c p).used
  -- it leaves a cutter that is one
  pub kept_valid : (c : Cutter) (p : List ℕ) → valid_cutter c ≡ true → valid_cutter (cut_of c p).cutter ≡ true
  -- a message handed out ends in LF CR and fits, also from a cutter that was never ours: no reader can refuse it by 4
  pub ends_lf_cr : (c : Cutter) (p m : List ℕ) → length c.bytes ≡ cutter_length → (cut_of c p).said ≡ ended (Ok m) → Ended m × (length m ≤ cutter_length)

-- ---- the answer of `cut`, and what is left in the lent memory

pub record CallAnswers (c : Cutter) (p out : List ℕ) : Type 0 where
  -- 16, used 0, nothing written
  pub refuses : (cut_of c p).said ≡ invalid →
      (cut_answer (cut_of c p) out ≡ record { wrote = Err State; used = 0; ended = false; cutter = c }) × (left_by_said whole_left (cut_of c p).said out ≡ out)
  -- no message ended: 0, all of the piece used, nothing written
  pub none : (cut_of c p).said ≡ nothing →
      (cut_answer (cut_of c p) out ≡ record { wrote = Ok 0; used = length p; ended = false; cutter = held_from c p }) ×
      (left_by_said whole_left (cut_of c p).said out ≡ out)
  -- a message that ended and is refused: 9, and nothing written
  pub too_long : (x : Refusal) → (cut_of c p).said ≡ ended (Err x) →
      (cut_answer (cut_of c p) out ≡ record { wrote = Err TooLong; used = (cut_of c p).used; ended = true; cutter = fresh }) ×
      (left_by_said whole_left (cut_of c p).said out ≡ out)
  -- then 2, with the message's length; it is used up all the same
  pub no_room : (m : List ℕ) → (cut_of c p).said ≡ ended (Ok m) → length out < length m →
      (cut_answer (cut_of c p) out ≡ record { wrote = Err (Room (length m)); used = (cut_of c p).used; ended = true; cutter = fresh }) ×
      (left_by_said whole_left (cut_of c p).said out ≡ out)
  -- else the message stands at the start of the lent memory, the rest as it was
  pub whole : (m : List ℕ) → (cut_of c p).said ≡ ended (Ok m) → length m ≤ length out →
      (cut_answer (cut_of c p) out ≡ record { wrote = Ok (length m); used = (cut_of c p).used; ended = true; cutter = fresh }) ×
      (left_by_said whole_left (cut_of c p).said out ≡ m ++ drop (length m) out)

-- ---- the parts of a call

pub record CallParts : Type 0 where
  -- all zero when fresh
  pub zero : fresh ≡ record { bytes = replicate 160 0; len = 0 }
  -- where `end_in` finds an end, a call uses so many bytes, and says the message that what is held and they make
  pub some : (c : Cutter) (p : List ℕ) (e : ℕ) → length c.bytes ≡ cutter_length → end_in c p ≡ Some e →
      (0 < e) × (cut_of c p ≡ record { used = e; said = ended (held_message (held_from c (take e p))); cutter = fresh })
  -- where it finds none, `hold` answers as a call does
  pub none : (c : Cutter) (p out : List ℕ) → length c.bytes ≡ cutter_length → end_in c p ≡ None → cut_answer (cut_of c p) out ≡ hold_of c p
  -- what a fresh cutter says of a whole message
  pub whole : (m : List ℕ) → held_message (held_from fresh m) ≡ judged Ok m
  -- the next end behind bytes x of a message
  pub behind_none : (x s : List ℕ) → end_from (eqb (last_of 0 x) 10) 0 s ≡ None → messages_from x s ≡ []
  pub behind : (x s : List ℕ) (e : ℕ) → end_from (eqb (last_of 0 x) 10) 0 s ≡ Some e → (0 < e) × (messages_from x s ≡ (x ++ take e s) ∷ messages (drop e s))

-- ---- a stream that is lent as a whole

pub record Lent : Type 0 where
  -- no end: no message, all is tail
  pub none : (s : List ℕ) → end_from false 0 s ≡ None → (messages s ≡ []) × (tail s ≡ s)
  -- the next end is that of the first message; the others are those of what follows
  pub next : (s : List ℕ) (e : ℕ) → end_from false 0 s ≡ Some e →
      (0 < e) × (e ≤ length s) × (messages s ≡ take e s ∷ messages (drop e s)) × (tail s ≡ tail (drop e s))

pub record Promised : Type 1 where
  pub one_list : OneList
  pub any_cutting : AnyCutting
  pub each_call : EachCall
  pub lent : Lent
  pub answers : (c : Cutter) (p out : List ℕ) → CallAnswers c p out
  pub parts : CallParts
