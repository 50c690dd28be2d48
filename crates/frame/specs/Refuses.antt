-- When a message's reader and writer refuse, for any codec: document 01's table of refusal numbers, each given exactly in its case and with its value.
-- Statements only; `rule`, `low` and `plain` are as in `Faithful`, and `places` says where the fields or items stand in the contents.
use Rattle.std.specs.Prelude.{ℕ, ◌+◌, ◌≤◌, ◌<◌, Bool, true, cond, List, [], ◌∷◌, ◌++◌, ◌↔◌, ◌≢◌, ◌⊎◌, ◌≡◌, length, Err, Ok}
use Rattle.refusal.specs.declared.Refusal.{Refusal}
use Rattle.refusal.specs.declared.Refusal.TheVariants.{Field, Room, Length, End, Checksum, Contents, Dropped, Setting, TooLong, Form, Lost, NoPort, State}
use Rattle.codec.specs.Codec.{Codec, spellings}
use Rattle.codec.specs.Places.{Place, FirstWrong}
use Rattle.frame.specs.Frame.{framed}
use Rattle.frame.specs.Message.{read_of, write_of}

-- how long a message is: with checksum two bytes more
abbrev pub length_by : Bool → ℕ → ℕ
length_by checksum plain = cond checksum (plain + 2) plain

-- the last two bytes are LF CR
abbrev pub Ended : List ℕ → Type 0
Ended m = (b : List ℕ) × (m ≡ b ++ 10 ∷ 13 ∷ [])

-- contents with their ending: in checksum mode with their checksum
abbrev pub Framed : Bool → List ℕ → Type 0
Framed checksum m = (b : List ℕ) × (m ≡ framed checksum b)

-- ---- a reader is handed m

module _ {A : Type 0} (rule : A → ℕ) (spellings : A → List (List ℕ)) (places : List Place) (plain : ℕ) (checksum : Bool) (m : List ℕ) where
  abbrev pub ReadWhen : Refusal → Type 0
  -- "read message of wrong length"; "its length"
  ReadWhen (Length n) = (length m ≢ length_by checksum plain) × (n ≡ length m)
  -- "last two bytes not LF CR"
  ReadWhen End = (length m ≡ length_by checksum plain) × (Ended m → ⊥)
  -- "checksum wrong"
  ReadWhen Checksum = (checksum ≡ true) × (length m ≡ length_by checksum plain) × Ended m × (Framed checksum m → ⊥)
  -- "contents no writer writes", but for other spellings ([5]); "first wrong field or item"
  ReadWhen (Contents i) = (b : List ℕ) × (m ≡ framed checksum b) × (length m ≡ length_by checksum plain) × FirstWrong rule spellings places b i
  -- a reader gives no other number
  ReadWhen (Field i) = ⊥
  ReadWhen (Room n) = ⊥
  ReadWhen Dropped = ⊥
  ReadWhen (Setting i) = ⊥
  ReadWhen TooLong = ⊥
  ReadWhen Form = ⊥
  ReadWhen Lost = ⊥
  ReadWhen NoPort = ⊥
  ReadWhen State = ⊥

-- ---- a writer is handed contents and lent memory

-- "out of range", with the lowest; then "lent output shorter than what goes in it", with the "needed length"
abbrev pub WriteWhen : {A : Type 0} → (A → ℕ) → (ℕ → Refusal) → ℕ → Bool → A → List ℕ → Refusal → Type 0
WriteWhen rule low plain checksum a out r =
    ((rule a ≢ 0) × (r ≡ low (rule a))) ⊎ ((rule a ≡ 0) × (length out < length_by checksum plain) × (r ≡ Room (length_by checksum plain)))

pub record Refuses {A : Type 0} (c : Codec A) (rule : A → ℕ) (low : ℕ → Refusal) (plain : ℕ) (places : List Place) : Type 0 where
  pub read_when : (checksum : Bool) (m : List ℕ) (r : Refusal) → (read_of c checksum m ≡ Err r) ↔ ReadWhen rule (spellings c) places plain checksum m r
  pub write_when : (checksum : Bool) (a : A) (out : List ℕ) (r : Refusal) →
      (write_of c low checksum a out ≡ Err r) ↔ WriteWhen rule low plain checksum a out r
  -- "where no case holds, the entry does its work": it needs no byte more than the message
  pub writes_when : (checksum : Bool) (a : A) (out : List ℕ) (n : ℕ) →
      (write_of c low checksum a out ≡ Ok n) ↔ ((rule a ≡ 0) × (length_by checksum plain ≤ length out) × (n ≡ length_by checksum plain))
