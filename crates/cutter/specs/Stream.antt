-- The whole input: its messages and its tail, what is said of a message, and any way to hand the input in.
use Rattle.std.specs.Prelude.{ℕ, Bool, cond, List, [], ◌∷◌, ◌++◌, ◌≡◌, leb, eqb, length, drop}
use Rattle.refusal.specs.Answer.{Answer, unless}
use Rattle.refusal.specs.declared.Refusal.TheVariants.{TooLong}
use Rattle.cutter.specs.Cutter.{cutter_length, closes, Said, invalid, nothing, ended, then_read, cut_of}
use Rattle.cutter.specs.declared.Cutter.{Cutter}

-- ---- the messages of an input

-- the last byte of a list, a where it is empty
unfoldable pub last_of : ℕ → List ℕ → ℕ
last_of a [] = a
last_of a (b ∷ s) = last_of b s

-- b makes an LF CR pair with the last byte of x
unfoldable pub pairs : List ℕ → ℕ → Bool
pairs x b = closes (eqb (last_of 0 x) 10) b

-- the messages in s, of the first of which x came before: each ends at its first pair
unfoldable pub messages_from : List ℕ → List ℕ → List (List ℕ)
messages_from x [] = []
messages_from x (b ∷ s) = cond (pairs x b) ((x ++ b ∷ []) ∷ messages_from [] s) (messages_from (x ++ b ∷ []) s)

-- what no pair ends
unfoldable pub tail_from : List ℕ → List ℕ → List ℕ
tail_from x [] = x
tail_from x (b ∷ s) = cond (pairs x b) (tail_from [] s) (tail_from (x ++ b ∷ []) s)

abbrev pub messages : List ℕ → List (List ℕ)
messages = messages_from []

abbrev pub tail : List ℕ → List ℕ
tail = tail_from []

-- ---- what is said of them

-- "9, too long, given at the pair in place of 3 to 6"; else what the named reader answers
unfoldable pub judged : {A : Type 0} → (List ℕ → Answer A) → List ℕ → Answer A
judged read m = unless (leb (length m) cutter_length) TooLong (read m)

unfoldable pub judged_all : {A : Type 0} → (List ℕ → Answer A) → List (List ℕ) → List (Answer A)
judged_all read [] = []
judged_all read (m ∷ ms) = judged read m ∷ judged_all read ms

-- ---- the input handed in, piece by piece

-- what a call says: one answer, or none
unfoldable pub said_by : {A : Type 0} → (List ℕ → Answer A) → Said → List (Answer A)
said_by read invalid = []
said_by read nothing = []
said_by read (ended m) = then_read read m ∷ []

-- pieces of any length, what a call did not use handed in again: from c, the whole input, all that is said, the cutter left
pub data Fed {A : Type 0} (read : List ℕ → Answer A) : Cutter → List ℕ → List (Answer A) → Cutter → Type 0 where
  none : (c : Cutter) → Fed read c [] [] c
  handed : (c d : Cutter) (p t s : List ℕ) (js ks : List (Answer A)) → s ≡ p ++ t → ks ≡ said_by read (cut_of c p).said ++ js →
      Fed read (cut_of c p).cutter (drop (cut_of c p).used p ++ t) js d → Fed read c s ks d

-- the same with a reader named in each call: what is said, beside the name
unfoldable pub said_to : {N A : Type 0} → (N → List ℕ → Answer A) → N → Said → List (N × Answer A)
said_to read n invalid = []
said_to read n nothing = []
said_to read n (ended m) = (n, then_read (read n) m) ∷ []

pub data FedTo {N A : Type 0} (read : N → List ℕ → Answer A) : Cutter → List ℕ → List (N × Answer A) → Cutter → Type 0 where
  none : (c : Cutter) → FedTo read c [] [] c
  handed : (c d : Cutter) (n : N) (p t s : List ℕ) (js ks : List (N × Answer A)) → s ≡ p ++ t → ks ≡ said_to read n (cut_of c p).said ++ js →
      FedTo read (cut_of c p).cutter (drop (cut_of c p).used p ++ t) js d → FedTo read c s ks d
