-- What demand 2 asks of a message's writer and reader, for any codec: statements only. `rule` is the lowest field or item out of range, 0 where the
-- contents are sendable; `low` the refusal that goes with it (1 or 8); `plain` the length of a message without checksum.
use Rattle.std.specs.Prelude.{ℕ, ◌+◌, Bool, cond, List, [], ◌++◌, ◌↔◌, ◌≡◌, length, drop, Err, Ok}
use Rattle.laws.specs.Member.{◌∈◌}
use Rattle.refusal.specs.declared.Refusal.{Refusal}
use Rattle.codec.specs.Codec.{Codec}
use Rattle.frame.specs.Message.{read_of, message_of, messages_of, write_of, left_by}

pub record Faithful {A : Type 0} (c : Codec A) (rule : A → ℕ) (low : ℕ → Refusal) (plain : ℕ) : Type 0 where
  -- "A reader accepts exactly the messages the writer writes for sendable contents, and gives those contents back"; [5]: and their other spellings
  pub exactly : (checksum : Bool) (m : List ℕ) (a : A) → (read_of c checksum m ≡ Ok a) ↔ ((rule a ≡ 0) × (m ∈ messages_of c checksum a))
  -- hence reading what was written gives the contents back,
  pub reads_written : (checksum : Bool) (a : A) → rule a ≡ 0 → read_of c checksum (message_of c checksum a) ≡ Ok a
  -- writing what was read gives the message back where its contents are spelt in one way,
  pub writes_read : (checksum : Bool) (m : List ℕ) (a : A) → read_of c checksum m ≡ Ok a → c.also a ≡ [] → message_of c checksum a ≡ m
  -- and no two contents share a message, however spelt
  pub one_contents : (checksum : Bool) (m : List ℕ) (a b : A) → rule a ≡ 0 → rule b ≡ 0 → m ∈ messages_of c checksum a → m ∈ messages_of c checksum b → a ≡ b
  -- "Lengths": with checksum two bytes more
  pub long : (checksum : Bool) (m : List ℕ) (a : A) → rule a ≡ 0 → m ∈ messages_of c checksum a → length m ≡ cond checksum (plain + 2) plain
  -- "Refusals write nothing"
  pub refused_same : (checksum : Bool) (a : A) (out : List ℕ) (r : Refusal) → write_of c low checksum a out ≡ Err r → left_by c low checksum a out ≡ out
  -- done: the message stands at the start, its length is the count, and the bytes past it are unchanged
  pub writes_message : (checksum : Bool) (a : A) (out : List ℕ) (n : ℕ) → write_of c low checksum a out ≡ Ok n →
      (n ≡ length (message_of c checksum a)) × (left_by c low checksum a out ≡ message_of c checksum a ++ drop n out)
