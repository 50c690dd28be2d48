-- The port, slot by slot, abstract in what its messages say. `Rules` is what a port gives: its modes, what a command does to them and answers,
-- its record. The line, the waiting place, the message under way and the four rules of a slot are defined here, once.
use Rattle.std.specs.Prelude.{ℕ, zero, suc, Bool, true, false, cond, List, [], ◌∷◌, ◌++◌}
use Rattle.std.proofs.Math.Option.{Option, none, some}

pub record Rules : Type 1 where
  -- all that commands, hand-ins and ends of messages may change
  pub Modes : Type 0
  -- what is handed to the port between slots
  pub Given : Type 0
  -- a line, and what is kept of it in the waiting place
  pub Line : Type 0
  pub Command : Type 0
  pub blank : Line
  pub join : Line → ℕ → Line
  -- does this byte end the line
  pub ends : Line → ℕ → Bool
  pub read : Line → Command
  -- is continuous sending on, and the bytes of the record that then starts
  pub continuous : Modes → Bool
  pub record_of : Modes → List ℕ
  -- a command acted on in these modes: the modes after it; its reply, [] where it has none; does that count as a reply sent last (`<` does not)
  pub act : Modes → Command → Modes
  pub reply_to : Modes → Command → List ℕ
  pub counts : Modes → Command → Bool
  -- the modes after the last byte of a message, and after a hand-in
  pub ended : Modes → Modes
  pub update : Modes → Given → Modes
  -- what a start leaves to be sent
  pub greeting : List ℕ

-- What was sent last: it changes when a message starts. A record is one that continuous sending starts.
pub data Kind : Type 0 where
  neither a_record a_reply : Kind

abbrev pub reply_kind : Bool → Kind
reply_kind true = a_reply
reply_kind false = neither

-- the modes, the waiting command, the bytes left of the message under way ([]: none is), what was sent last, the line
pub data State (r : Rules) : Type 0 where
  port : r.Modes → Option r.Command → List ℕ → Kind → r.Line → State r

-- what an event shows
pub data Out (r : Rules) : Type 0 where
  -- a received byte: it joined the line, or the line was taken, or the line was dropped (answer 7)
  grew : Out r
  took : r.Command → Out r
  dropped : Out r
  -- a hand-in
  noted : Out r
  -- a slot: the next byte of the message under way
  sends : ℕ → Out r
  -- a slot: the command acted on, if one was, and the message that starts: its kind, its first byte, which is sent, and the others
  begins : Option r.Command → Kind → ℕ → List ℕ → Out r
  -- a slot: the command acted on, if one was, and no byte is sent
  idles : Option r.Command → Out r

-- what the rules choose: the command acted on, the modes then, what still waits, and the message that starts, with its kind ([]: none starts)
pub data Choice (r : Rules) : Type 0 where
  choice : Option r.Command → r.Modes → Option r.Command → Kind → List ℕ → Choice r

module _ (r : Rules) where
  open r use {Modes, Command, blank, continuous, record_of, act, reply_to, counts, ended, greeting}

  -- A start leaves the greeting to be sent, an empty line, no command waiting. (The port gives the modes.)
  abbrev pub start : Modes → State r
  start m = port m none greeting neither blank

  -- 1. Continuous sending on and a reply sent last: a record starts.
  abbrev pub owed : Modes → Kind → Bool
  owed m neither = false
  owed m a_record = false
  owed m a_reply = continuous m

  -- 3. Still nothing and continuous sending on: a record starts. 4. Else the slot is idle. (`a` is the command that rule 2 acted on, if one waited.)
  unfoldable pub rule3 : Option Command → Modes → Choice r
  rule3 a m = cond (continuous m) (choice a m none a_record (record_of m)) (choice a m none neither [])

  -- 2. A command waits: it is acted on, which frees the waiting place. If it has a reply, that starts.
  unfoldable pub answer : List ℕ → Modes → Command → Choice r
  answer [] m c = rule3 (some c) (act m c)
  answer (b ∷ bs) m c = choice (some c) (act m c) none (reply_kind (counts m c)) (b ∷ bs)

  unfoldable pub rule2 : Modes → Option Command → Choice r
  rule2 m none = rule3 none m
  rule2 m (some c) = answer (reply_to m c) m c

  unfoldable pub rules : Modes → Option Command → Kind → Choice r
  rules m w k = cond (owed m k) (choice none m w a_record (record_of m)) (rule2 m w)

  -- the modes when a byte has left and these are left of its message
  abbrev pub sent_one : Modes → List ℕ → Modes
  sent_one m [] = ended m
  sent_one m (b ∷ bs) = m

module _ {r : Rules} where
  open r use {Modes, Line, Command, Given, blank, join, ends, read, update}

  abbrev pub modes : State r → Modes
  modes (port m w u k l) = m

  abbrev pub waiting : State r → Option Command
  waiting (port m w u k l) = w

  abbrev pub underway : State r → List ℕ
  underway (port m w u k l) = u

  abbrev pub last : State r → Kind
  last (port m w u k l) = k

  abbrev pub line : State r → Line
  line (port m w u k l) = l

  -- Where the line ends, at CR, it is emptied. If no command waits, the line is taken and waits. If one waits, the line is dropped.
  unfoldable pub on_return : State r → State r × Out r
  on_return (port m none u k l) = (port m (some (read l)) u k blank, took (read l))
  on_return (port m (some c) u k l) = (port m (some c) u k blank, dropped)

  -- A received byte that does not end the line joins it.
  unfoldable pub on_other : State r → ℕ → State r × Out r
  on_other (port m w u k l) b = (port m w u k (join l b), grew)

  unfoldable pub on_byte : State r → ℕ → State r × Out r
  on_byte s b = cond (ends (line s) b) (on_return s) (on_other s b)

  -- A message that starts is fixed then, and its first byte is sent. Where none starts, what was sent last stays.
  unfoldable pub begin : Choice r → Kind → Line → State r × Out r
  begin (choice a m w k []) before l = (port m w [] before l, idles a)
  begin (choice a m w k (b ∷ bs)) before l = (port (sent_one r m bs) w bs k l, begins a k b bs)

  -- A slot is room for one byte. A message under way sends its next byte. Otherwise the rules choose.
  unfoldable pub on_slot : State r → State r × Out r
  on_slot (port m w (b ∷ bs) k l) = (port (sent_one r m bs) w bs k l, sends b)
  on_slot (port m w [] k l) = begin (rules r m w k) k l

  unfoldable pub on_given : State r → Given → State r × Out r
  on_given (port m w u k l) x = (port (update m x) w u k l, noted)

-- An event: a received byte, a sending slot, something handed in, as a new measurement. There is none for a restart.
pub data Event (X : Type 0) : Type 0 where
  received : ℕ → Event X
  slot : Event X
  given : X → Event X

abbrev pub Events : Rules → Type 0
Events r = List (Event r.Given)

-- how many sending slots are among them
abbrev pub slots : {X : Type 0} → List (Event X) → ℕ
slots [] = zero
slots (received b ∷ es) = slots es
slots (slot ∷ es) = suc (slots es)
slots (given x ∷ es) = slots es

abbrev pub listed : {A : Type 0} → Option A → List A
listed none = []
listed (some a) = a ∷ []

module _ {r : Rules} where
  open r use {Command, Given}

  abbrev pub step : State r → Event Given → State r × Out r
  step s (received b) = on_byte s b
  step s slot = on_slot s
  step s (given x) = on_given s x

  -- the state after an event, and what the event shows
  abbrev pub next : State r → Event Given → State r
  next s e = (step s e).0

  abbrev pub shows : State r → Event Given → Out r
  shows s e = (step s e).1

  -- the state after a list of events, and what they show, end to end
  abbrev pub run : State r → Events r → State r
  run s [] = s
  run s (e ∷ es) = run (next s e) es

  abbrev pub seen : {A : Type 0} → (Out r → List A) → State r → Events r → List A
  seen f s [] = []
  seen f s (e ∷ es) = f (shows s e) ++ seen f (next s e) es

  abbrev pub taken_in : Out r → List Command
  taken_in grew = []
  taken_in (took c) = c ∷ []
  taken_in dropped = []
  taken_in noted = []
  taken_in (sends b) = []
  taken_in (begins a k b bs) = []
  taken_in (idles a) = []

  abbrev pub acted_in : Out r → List Command
  acted_in grew = []
  acted_in (took c) = []
  acted_in dropped = []
  acted_in noted = []
  acted_in (sends b) = []
  acted_in (begins a k b bs) = listed a
  acted_in (idles a) = listed a

  abbrev pub started_in : Out r → List (List ℕ)
  started_in grew = []
  started_in (took c) = []
  started_in dropped = []
  started_in noted = []
  started_in (sends b) = []
  started_in (begins a k b bs) = (b ∷ bs) ∷ []
  started_in (idles a) = []

  abbrev pub sent_in : Out r → List ℕ
  sent_in grew = []
  sent_in (took c) = []
  sent_in dropped = []
  sent_in noted = []
  sent_in (sends b) = b ∷ []
  sent_in (begins a k b bs) = b ∷ []
  sent_in (idles a) = []

  -- of a list of events: the commands taken, the commands acted on, the messages started, the bytes sent
  abbrev pub taken : State r → Events r → List Command
  taken s es = seen taken_in s es

  abbrev pub acted : State r → Events r → List Command
  acted s es = seen acted_in s es

  abbrev pub started : State r → Events r → List (List ℕ)
  started s es = seen started_in s es

  abbrev pub sent : State r → Events r → List ℕ
  sent s es = seen sent_in s es
