-- "Keep this port's bytes, slots, measurements and any restarts with all they hand in, and change the other port's bytes, slots and measurements at will: if
-- neither run acts on X or Y there, this port's answers and bytes are the same; if they do, only the U letter of N replies and their checksums may
-- differ." Statements only.
use Rattle.std.specs.Prelude.{ℕ, suc, Bool, true, false, List, [], ◌∷◌, map, ◌⊎◌, ◌≢◌, ◌≡◌, length, get_or, Ok, Some}
use Rattle.std.proofs.Math.Option.{none}
use Rattle.laws.specs.Member.{◌∈◌}
use Rattle.refusal.specs.Answer.{Verdict}
use Rattle.frame.specs.Frame.{framed}
use Rattle.fixed.specs.Form.{fixed_form}
use Rattle.fixed.specs.declared.Fixed.{Fixed}
use Rattle.fixed.specs.declared.Settings.{Settings}
use Rattle.units.specs.declared.Measurement.{Measurement}
use Rattle.line.specs.declared.Line.{Line}
use Rattle.line.specs.Command.{command_of}
use Rattle.line.specs.declared.Command.TheVariants.{X, Y}
use Rattle.state.specs.declared.Message.{Message}
use Rattle.state.specs.declared.State.TheVariants.{Ready}
use Rattle.state.specs.State.{unsent, valid_source}
use Rattle.rules.specs.Does.{fixed_with}
use Rattle.rules.specs.Unread.{lettered}
use Rattle.port.specs.declared.Port.{Port}
use Rattle.port.specs.declared.Handed.{Handed}
use Rattle.port.specs.declared.Received.{Received}
use Rattle.port.specs.declared.Slotted.{Slotted}
use Rattle.fill.specs.declared.Filled.{Filled}
use Rattle.fill.specs.Fill.{run_of}
use Rattle.walk.specs.Calls.{Held}
use Rattle.connectors.specs.declared.Side.{Side}
use Rattle.connectors.specs.Promises.{opposite}
use Rattle.connectors.specs.Connectors.{side_of}
use Rattle.isolation.specs.Turns.{turn_of, turns_in}
use Rattle.isolation.specs.Calls.{Both, held_at, is_at, Asked, Call, restart, on, after, after_all, own_calls, bytes_at, slots_at, taken_at, acted_at, turns_at}
use Rattle.isolation.specs.Answers.{slots_filled, Answer, started, received, slotted, measured, filled, answers_at, told_by, bytes_of_all, all_bytes}

-- neither X nor Y is among the lines
abbrev pub NoTurn : List Line → Type 0
NoTurn ls = (l : Line) → l ∈ ls → (command_of l ≢ X) × (command_of l ≢ Y)

-- ---- what the letter may change

-- the reply to N, for these fixed data
abbrev pub reply_to_n : Bool → Fixed → List ℕ
reply_to_n checksum f = framed checksum (fixed_form.print f)

-- the places of a reply to N that hang on the letter: the letter's own, behind U, and those of the two checksum characters
abbrev pub LetterPlace : Bool → ℕ → Type 0
LetterPlace checksum i = (i ≡ 54) ⊎ ((checksum ≡ true) × ((i ≡ 65) ⊎ (i ≡ 66)))

-- this message, sent up to a place
abbrev pub sent_to : ℕ → List ℕ → Message
sent_to at xs = record { bytes = (unsent xs).bytes; len = length xs; at = at }

-- two messages that are replies to N, sent up to the same place, for the same fixed data with two letters
pub record BothToN (f : Fixed) (m m' : Message) : Type 0 where
  pub checksum : Bool
  pub letter : ℕ
  pub letter' : ℕ
  pub at : ℕ
  pub is : m ≡ sent_to at (reply_to_n checksum (fixed_with letter f))
  pub is' : m' ≡ sent_to at (reply_to_n checksum (fixed_with letter' f))

-- Two ports that differ in the letter of their settings, and in nothing else but the message under way where it is a reply to N. 16 is for both or for neither.
pub record AlikePort (p q : Port) : Type 0 where
  pub letter : ℕ
  pub source : q.source ≡ lettered letter p.source
  pub valid : valid_source q.source ≡ valid_source p.source
  pub message : (q.message ≡ p.message) ⊎ BothToN p.source.settings.fixed p.message q.message
  pub last : q.last ≡ p.last
  pub waiting : q.waiting ≡ p.waiting

-- two slots that sent, each of them in a reply to N, the byte of one place that hangs on the letter
pub record SentToN (x y : Slotted) : Type 0 where
  pub byte : ℕ
  pub byte' : ℕ
  pub sends : x.sent ≡ Ok (Some byte)
  pub sends' : y.sent ≡ Ok (Some byte')
  pub replies : BothToN x.port.source.settings.fixed x.port.message y.port.message
  pub place : ℕ
  pub left_from_lem : replies.at ≡ suc place
  pub hangs : LetterPlace replies.checksum place
  pub stands : byte ≡ get_or (reply_to_n replies.checksum (fixed_with replies.letter x.port.source.settings.fixed)) place 0
  pub stands' : byte' ≡ get_or (reply_to_n replies.checksum (fixed_with replies.letter' x.port.source.settings.fixed)) place 0

-- two slots that sent the same, or two such bytes
pub record AlikeSlots (x y : Slotted) : Type 0 where
  pub port : AlikePort x.port y.port
  pub sent : (y.sent ≡ x.sent) ⊎ SentToN x y

pub record AlikeHeld (h k : Held) : Type 0 where
  pub port : AlikePort h.port k.port
  pub line : k.line ≡ h.line

pub data AllAlike : List Slotted → List Slotted → Type 0 where
  no_slot : AllAlike [] []
  next_slot : {x y : Slotted} {xs ys : List Slotted} → AlikeSlots x y → AllAlike xs ys → AllAlike (x ∷ xs) (y ∷ ys)

-- two answers: verdicts, counts and lines are equal, ports and slots alike
pub data AlikeAnswer : Answer → Answer → Type 0 where
  on_start : {v w : Verdict} {h k : Held} → w ≡ v → AlikeHeld h k → AlikeAnswer (started v h) (started w k)
  on_byte_lem : {r t : Received} → t.verdict ≡ r.verdict → t.line ≡ r.line → AlikePort r.port t.port → AlikeAnswer (received r) (received t)
  on_slot_lem : {x y : Slotted} → AlikeSlots x y → AlikeAnswer (slotted x) (slotted y)
  on_measurement : {r t : Handed} → t.verdict ≡ r.verdict → AlikePort r.port t.port → AlikeAnswer (measured r) (measured t)
  on_fill : {r t : Filled} {xs ys : List Slotted} → t.verdict ≡ r.verdict → t.count ≡ r.count → AlikePort r.port t.port → AllAlike xs ys →
      AlikeAnswer (filled r xs) (filled t ys)

pub data AlikeAnswers : List Answer → List Answer → Type 0 where
  no_more : AlikeAnswers [] []
  and_next : {x y : Answer} {xs ys : List Answer} → AlikeAnswer x y → AlikeAnswers xs ys → AlikeAnswers (x ∷ xs) (y ∷ ys)

-- ---- the two sentences, of two runs with any restarts in them

-- what the words of the premises mean
pub record Words : Type 0 where
  -- a restart and what is asked of this port are its own; all that is asked of the other, or of no port, is free
  pub restart_own : (a : Side) (s : Settings) (camera external : Measurement) (cs : List Call) →
      own_calls a (restart s camera external ∷ cs) ≡ restart s camera external ∷ own_calls a cs
  pub asked_own : (a : Side) (n : ℕ) (q : Asked) (cs : List Call) → is_at a (side_of n) ≡ true → own_calls a (on n q ∷ cs) ≡ on n q ∷ own_calls a cs
  pub others_free : (a : Side) (n : ℕ) (q : Asked) (cs : List Call) → is_at a (side_of n) ≡ false → own_calls a (on n q ∷ cs) ≡ own_calls a cs
  -- a restart runs no slot, takes no line and acts on none, and no line but X and Y turns the letter
  pub restart_runs : (a : Side) (h : Both) (s : Settings) (camera external : Measurement) (cs : List Call) →
      slots_at a h (restart s camera external ∷ cs) ≡ slots_at a (after h (restart s camera external)) cs
  pub restart_takes : (a : Side) (h : Both) (s : Settings) (camera external : Measurement) (cs : List Call) →
      taken_at a h (restart s camera external ∷ cs) ≡ taken_at a (after h (restart s camera external)) cs
  pub restart_acts : (a : Side) (h : Both) (s : Settings) (camera external : Measurement) (cs : List Call) →
      acted_at a h (restart s camera external ∷ cs) ≡ acted_at a (after h (restart s camera external)) cs
  pub no_turn : (ls : List Line) → ((l : Line) → l ∈ ls → turn_of (command_of l) ≡ none) → NoTurn ls
  -- where a port acts on neither X nor Y, it makes no turn; nor does it by X or Y in ready
  pub neither : (a : Side) (h : Both) (cs : List Call) → NoTurn (acted_at (opposite a) h cs) → turns_at a h cs ≡ []
  pub ready_turns : (l : Line) → turns_in Ready l ≡ none

pub record Isolated : Type 0 where
  pub words : Words
  -- "if neither run acts on X or Y there, this port's answers and bytes are the same": if the other port turns the letter in neither (`neither`)
  pub same : (a : Side) (h k : Both) (cs ds : List Call) → held_at h a ≡ held_at k a → own_calls a cs ≡ own_calls a ds →
      turns_at a h cs ≡ [] → turns_at a k ds ≡ [] → answers_at a h cs ≡ answers_at a k ds
  pub same_bytes : (a : Side) (h k : Both) (cs ds : List Call) → held_at h a ≡ held_at k a → own_calls a cs ≡ own_calls a ds →
      turns_at a h cs ≡ [] → turns_at a k ds ≡ [] → bytes_at a h cs ≡ bytes_at a k ds
  -- and so is what the port then is: its line, waiting place, modes, unit, film, measurement, rate and message
  pub same_port : (a : Side) (h k : Both) (cs ds : List Call) → held_at h a ≡ held_at k a → own_calls a cs ≡ own_calls a ds →
      turns_at a h cs ≡ [] → turns_at a k ds ≡ [] → held_at (after_all h cs) a ≡ held_at (after_all k ds) a
  -- "if they do, only the U letter of N replies and their checksums may differ"
  pub alike : (a : Side) (h k : Both) (cs ds : List Call) → held_at h a ≡ held_at k a → own_calls a cs ≡ own_calls a ds → AlikeAnswers (answers_at a h cs) (answers_at a k ds)
  pub alike_port : (a : Side) (h k : Both) (cs ds : List Call) → held_at h a ≡ held_at k a → own_calls a cs ≡ own_calls a ds →
      AlikeHeld (held_at (after_all h cs) a) (held_at (after_all k ds) a)
  -- so verdicts, counts and lines never differ, nor the number of bytes
  pub alike_told : (a : Side) (h k : Both) (cs ds : List Call) → held_at h a ≡ held_at k a → own_calls a cs ≡ own_calls a ds →
      map told_by (answers_at a h cs) ≡ map told_by (answers_at a k ds)
  pub alike_long : (a : Side) (h k : Both) (cs ds : List Call) → held_at h a ≡ held_at k a → own_calls a cs ≡ own_calls a ds → length (bytes_at a h cs) ≡ length (bytes_at a k ds)
  -- the bytes of the answers are those that the port sends, a fill's those of its slots
  pub fill_bytes : (n : ℕ) (p : Port) → (run_of n p).bytes ≡ bytes_of_all (slots_filled n p)
  pub bytes : (a : Side) (h : Both) (cs : List Call) → bytes_at a h cs ≡ all_bytes (answers_at a h cs)
