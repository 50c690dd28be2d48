-- The cutter, by value: where a message ends, what a byte makes of it, and what one call makes of a piece.
use Rattle.std.specs.Prelude.{ℕ, ◌+◌, ◌-◌, ◌≤◌, Bool, true, false, cond, ◌&&◌, not, List, [], ◌∷◌, ◌≡◌, ltb, leb, eqb, length, replicate, set, get_or, take, Option, None, Some, Err, Ok}
use Rattle.laws.specs.Every.{every}
use Rattle.laws.specs.Gives.{Gives}
use Rattle.refusal.specs.Answer.{Answer, unless}
use Rattle.refusal.specs.declared.Refusal.TheVariants.{TooLong, State}
use Rattle.frame.specs.Message.{room_for, then_left}
use Rattle.cutter.specs.declared.Cutter.{Cutter}
use Rattle.cutter.specs.declared.Cut.{Cut}

-- "a cutter that holds up to 160 bytes, the LF CR counted"
abbrev pub cutter_length : ℕ
cutter_length = 160

unfoldable pub zeros : List ℕ
zeros = replicate cutter_length 0

abbrev pub fresh : Cutter
fresh = record { bytes = zeros; len = 0 }

-- one more than it holds stands for any more; a count past that is refused with 16; the bytes may be anything
abbrev pub valid_cutter : Cutter → Bool
valid_cutter c = leb c.len (cutter_length + 1)

-- ---- a byte

unfoldable pub too_many : ℕ → Cutter
too_many b = record { bytes = set zeros (cutter_length - 1) b; len = cutter_length + 1 }

-- a byte joins; a message that is too long is thrown away but for its last byte
unfoldable pub joined : Cutter → ℕ → Cutter
joined c b =
    cond (ltb c.len cutter_length)
    (record { bytes = set c.bytes c.len b; len = c.len + 1 })
    (too_many b)

-- the bytes one after the other, none of which ends a message
unfoldable pub held_from : Cutter → List ℕ → Cutter
held_from c [] = c
held_from c (b ∷ s) = held_from (joined c b) s

-- the last byte is LF
unfoldable pub after_lf : Cutter → Bool
after_lf c =
    cond (eqb c.len 0) false
    (cond (leb c.len cutter_length) (eqb (get_or c.bytes (c.len - 1) 0) 10)
    (eqb (get_or c.bytes (cutter_length - 1) 0) 10))

-- an LF CR pair: b is CR, behind an LF or not
abbrev pub closes : Bool → ℕ → Bool
closes lf b = eqb b 13 && lf

-- "ends a message at each LF CR pair"
unfoldable pub ends_message : Cutter → ℕ → Bool
ends_message c b = closes (after_lf c) b

-- the message that the cutter has all bytes of: itself, or 9
unfoldable pub held_message : Cutter → Answer (List ℕ)
held_message c = unless (leb c.len cutter_length) TooLong (Ok (take c.len c.bytes))

-- ---- a piece

-- what a call says: 16; nothing, for no message ended; or the message that ended
pub data Said : Type 0 where
  invalid : Said
  nothing : Said
  ended : Answer (List ℕ) → Said

-- what a call makes of a piece: how many of its bytes it used, what it says, and the cutter for what follows
pub record Cutting : Type 0 where
  pub used : ℕ
  pub said : Said
  pub cutter : Cutter

-- the bytes of a piece, one by one up to an end, n of them taken before; "right after an ended pair the cutter is as a fresh one"
unfoldable pub cut_from : Cutter → ℕ → List ℕ → Cutting
cut_from c n [] = record { used = n; said = nothing; cutter = c }
cut_from c n (b ∷ s) =
    cond (ends_message c b)
    (record { used = n + 1; said = ended (held_message (joined c b)); cutter = fresh })
    (cut_from (joined c b) (n + 1) s)

-- "only 16 leaves the cutter as it was"
unfoldable pub cut_of : Cutter → List ℕ → Cutting
cut_of c s = cond (valid_cutter c) (cut_from c 0 s) (record { used = 0; said = invalid; cutter = c })

-- ---- the same, looked for first

-- where the first message ends: so many bytes with its CR, n of them before s, behind an LF or not; none where none ends
unfoldable pub end_from : Bool → ℕ → List ℕ → Option ℕ
end_from lf n [] = None
end_from lf n (b ∷ s) = cond (closes lf b) (Some (n + 1)) (end_from (eqb b 10) (n + 1) s)

-- LF is the byte before the place i of s, or before s
unfoldable pub lf_before : Bool → List ℕ → ℕ → Bool
lf_before lf s i = cond (eqb i 0) lf (eqb (get_or s (i - 1) 0) 10)

-- no CR among these bytes
abbrev pub quiet : List ℕ → Bool
quiet = every (λ (b : ℕ). not (eqb b 13))

-- a place that no CR stands before
pub record BehindQuiet (s : List ℕ) (i : ℕ) : Type 0 where
  pub fits : i ≤ length s
  pub before : quiet (take i s) ≡ true

-- how many bytes of the piece a call uses that ends a message; none where it ends none
unfoldable pub end_in : Cutter → List ℕ → Option ℕ
end_in c s = cond (valid_cutter c) (end_from (after_lf c) 0 s) None

-- a call that ends none: 16, or the piece is held
unfoldable pub hold_of : Cutter → List ℕ → Cut
hold_of c s =
    cond (valid_cutter c)
    (record { wrote = Ok 0; used = length s; ended = false; cutter = held_from c s })
    (record { wrote = Err State; used = 0; ended = false; cutter = c })

-- ---- what an entry makes of it

-- what is made of an ended message; 16, or a count of 0 where none ended
unfoldable pub answer_by : (Answer (List ℕ) → Answer ℕ) → Said → Answer ℕ
answer_by make invalid = Err State
answer_by make nothing = Ok 0
answer_by make (ended m) = make m

-- what is left in lent memory
unfoldable pub left_by_said : (Answer (List ℕ) → List ℕ → List ℕ) → Said → List ℕ → List ℕ
left_by_said put invalid out = out
left_by_said put nothing out = out
left_by_said put (ended m) out = put m out

unfoldable pub has_ended : Said → Bool
has_ended invalid = false
has_ended nothing = false
has_ended (ended m) = true

-- what the named reader answers: 9 in place of its own
unfoldable pub then_read : {A : Type 0} → (List ℕ → Answer A) → Answer (List ℕ) → Answer A
then_read read (Ok m) = read m
then_read read (Err r) = Err r

-- the message itself: 9, then 2 with its length; else its length
unfoldable pub whole_in : List ℕ → Answer (List ℕ) → Answer ℕ
whole_in out m = then_read (λ (s : List ℕ). room_for (length s) (length out)) m

-- it at the start of lent memory
abbrev pub whole_left : Answer (List ℕ) → List ℕ → List ℕ
whole_left m out = then_left (λ (s : List ℕ). s) m out

-- the message that ends with this part goes to lent memory
abbrev pub PutsMessage : Cutter → List ℕ → List ℕ → Answer ℕ → List ℕ → Type 0
PutsMessage c part out r after =
    let m = held_message (held_from c part) in
    Gives (whole_in out m) (whole_left m out) r after

unfoldable pub cut_answer : Cutting → List ℕ → Cut
cut_answer t out = record { wrote = (answer_by (whole_in out) t.said); used = t.used; ended = has_ended t.said; cutter = t.cutter }
