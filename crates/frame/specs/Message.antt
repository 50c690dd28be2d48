-- A whole message of any codec: what its reader answers, and what its writer answers and leaves.
use Rattle.std.specs.Prelude.{ℕ, ◌+◌, List, map, Bool, length, take, leb, eqb, Err, Ok}
use Rattle.laws.specs.Gives.{Gives}
use Rattle.laws.specs.Over.{over}
use Rattle.refusal.specs.Answer.{Answer, Verdict, unless}
use Rattle.refusal.specs.declared.Refusal.{Refusal}
use Rattle.refusal.specs.declared.Refusal.TheVariants.{Room, Contents}
use Rattle.codec.specs.Codec.{Got, got, wrong, Codec, spellings}
use Rattle.frame.specs.Frame.{framed, ending_width, opening}

-- 6 with the first wrong field or item
unfoldable pub found : {A : Type 0} → Got A → Answer A
found (got a) = Ok a
found (wrong i) = Err (Contents i)

unfoldable pub afterwards : {A : Type 0} → Verdict → Answer A → Answer A
afterwards (Ok tt) k = k
afterwards (Err r) k = Err r

-- a reader: 3, 4, 5, then the contents
unfoldable pub read_of : {A : Type 0} → Codec A → Bool → List ℕ → Answer A
read_of c checksum m = afterwards (opening checksum c.width m) (found (c.parse (take c.width m)))

abbrev pub message_of : {A : Type 0} → Codec A → Bool → A → List ℕ
message_of c checksum a = framed checksum (c.print a)

-- each spelling under its own checksum; the first is the writer's message
abbrev pub messages_of : {A : Type 0} → Codec A → Bool → A → List (List ℕ)
messages_of c checksum a = map (framed checksum) (spellings c a)

abbrev pub needed : {A : Type 0} → Codec A → Bool → ℕ
needed c checksum = c.width + ending_width checksum

-- ---- a writer

-- the contents, where they may be sent; else the lowest field or item out of range (1 or 8)
unfoldable pub checked : {A : Type 0} → Codec A → (ℕ → Refusal) → A → Answer A
checked c low a = unless (eqb (c.lowest a) 0) (low (c.lowest a)) (Ok a)

-- n bytes in a memory of len: 2 with n, or n as the count
unfoldable pub room_for : ℕ → ℕ → Answer ℕ
room_for n len = unless (leb n len) (Room n) (Ok n)

-- an answer, then its contents written as n bytes: refused as it is, then 2; else the count
unfoldable pub then_write : {A : Type 0} → ℕ → Answer A → List ℕ → Answer ℕ
then_write n (Ok a) out = room_for n (length out)
then_write n (Err r) out = Err r

-- the bytes at the start of the lent memory, the rest as it was; a refusal writes nothing
unfoldable pub then_left : {A : Type 0} → (A → List ℕ) → Answer A → List ℕ → List ℕ
then_left bytes (Ok a) out = over out 0 (bytes a)
then_left bytes (Err r) out = out

-- a writer: the lowest field or item out of range (1 or 8), then 2 with the needed length; else the count
unfoldable pub write_of : {A : Type 0} → Codec A → (ℕ → Refusal) → Bool → A → List ℕ → Answer ℕ
write_of c low checksum a out = then_write (needed c checksum) (checked c low a) out

-- the message at the start of the lent memory, the rest as it was; a refusal writes nothing
unfoldable pub left_by : {A : Type 0} → Codec A → (ℕ → Refusal) → Bool → A → List ℕ → List ℕ
left_by c low checksum a out = then_left (message_of c checksum) (checked c low a) out

-- what a writer of messages promises
abbrev pub WritesMessage : {A : Type 0} → Codec A → (ℕ → Refusal) → Bool → A → List ℕ → Answer ℕ → List ℕ → Type 0
WritesMessage c low checksum a out w after = Gives (write_of c low checksum a out) (left_by c low checksum a out) w after

-- what promises who lays a message of n bytes at the start of the lent memory, or refuses as the message is refused, then by 2
abbrev pub Moves : ℕ → Answer (List ℕ) → List ℕ → Answer ℕ → List ℕ → Type 0
Moves n message out w after = Gives (then_write n message out) (then_left (λ l. l) message out) w after
