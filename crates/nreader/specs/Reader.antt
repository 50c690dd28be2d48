-- What the code finds in parts of the N message, and the owner's name as a part of it.
use Rattle.std.specs.Prelude.{ℕ, zero, suc, ◌+◌, Bool, ◌&&◌, cond, List, ◌≡◌, eqb, length, get_or, take, drop, Err, None, Ok, Option, Result, Some}
use Rattle.std.specs.Borrow.{Bor}
use Rattle.refusal.specs.declared.Wrong.{Wrong}
use Rattle.refusal.specs.Answer.{Answer}
use Rattle.codec.specs.Codec.{Got, got, wrong}
use Rattle.fixed.specs.Fixed.{fixed_of}
use Rattle.fixed.specs.declared.Fixed.{Fixed}
use Rattle.fixed.specs.declared.Lens.{Lens}

-- a letter that passes a test, behind the tag t
unfoldable pub read_letter : ℕ → (ℕ → Bool) → ℕ → ℕ → Option ℕ
read_letter t ok tag b = cond (eqb tag t && ok b) (Some b) None

unfoldable pub letter_says : ℕ → Option ℕ → Got ℕ
letter_says i (Some b) = got b
letter_says i None = wrong i

-- what no text holds
unfoldable pub lens_says : Result Lens Wrong → Got Lens
lens_says (Ok l) = got l
lens_says (Err w) = wrong w.0

-- the contents s: their texts stand there, and the rest is what was found
unfoldable pub items_says : List ℕ → Result Lens Wrong → Got Fixed
items_says s (Ok l) = got (fixed_of (take 9 (drop 2 s)) (take 31 (drop 12 s)) l (take 4 (drop 61 s)))
items_says s (Err w) = wrong w.0

-- ---- the owner's part

-- how many of the first n bytes are left without the spaces at their end
unfoldable pub unspaced : List ℕ → ℕ → ℕ
unspaced s zero = 0
unspaced s (suc n) = cond (eqb (get_or s n 0) 32) (unspaced s n) (suc n)

-- how long a text is without its trailing spaces
abbrev pub trimmed : List ℕ → ℕ
trimmed s = unspaced s (length s)

-- where the part starts, and how long it is, by the reader's answer: a refused message's is empty, at its start
abbrev pub owner_at : Answer Fixed → ℕ
owner_at (Ok f) = 12
owner_at (Err r) = 0

abbrev pub owner_length : Answer Fixed → ℕ
owner_length (Ok f) = trimmed f.owner
owner_length (Err r) = 0

-- r is the n bytes of m from a on: their place, a block and an offset in it, and what they are
pub record PartIs (m : Bor (List ℕ)) (a n : ℕ) (r : Bor (List ℕ)) : Type 0 where
  pub place : r.ref_ptr ≡ (m.ref_ptr.0, a + m.ref_ptr.1)
  pub bytes : r.now ≡ take n (drop a m.now)

-- r is the owner's part of m, by the reader's answer
abbrev pub PartBy : Bor (List ℕ) → Answer Fixed → Bor (List ℕ) → Type 0
PartBy m a r = PartIs m (owner_at a) (owner_length a) r
