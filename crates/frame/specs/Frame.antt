-- What stands behind the contents of a message, and what is tested of it before the contents are read.
use Rattle.std.specs.Prelude.{ℕ, ◌+◌, ◌-◌, ◌/◌, ◌%◌, List, [], ◌∷◌, ◌++◌, Bool, true, false, ◌&&◌, cond, length, take, get_or, eqb, Err, Ok}
use Rattle.std.specs.Int.Bits.{bit_xor}
use Rattle.refusal.specs.Answer.{Verdict}
use Rattle.refusal.specs.declared.Refusal.TheVariants.{Length, End, Checksum}
use Rattle.frame.specs.declared.Sum.{Sum}

-- the exclusive-or of a start and each byte
unfoldable pub xor_from : ℕ → List ℕ → ℕ
xor_from x [] = x
xor_from x (b ∷ s) = xor_from (bit_xor x b) s

-- start at FF hex; 40 hex plus the high half, then 40 hex plus the low half
unfoldable pub sum_of : List ℕ → Sum
sum_of s = record { high = 64 + xor_from 255 s / 16; low = 64 + xor_from 255 s % 16 }

-- two checksum characters where the mode is on, then LF CR
unfoldable pub ending : Bool → List ℕ → List ℕ
ending true s = (sum_of s).high ∷ (sum_of s).low ∷ 10 ∷ 13 ∷ []
ending false s = 10 ∷ 13 ∷ []

abbrev pub ending_width : Bool → ℕ
ending_width checksum = cond checksum 4 2

-- contents as a message
abbrev pub framed : Bool → List ℕ → List ℕ
framed checksum s = s ++ ending checksum s

-- LF CR at the end
unfoldable pub is_ended : List ℕ → Bool
is_ended m = eqb (get_or m (length m - 2) 0) 10 && eqb (get_or m (length m - 1) 0) 13

-- the checksum of the first w bytes behind them
unfoldable pub sums : ℕ → List ℕ → Bool
sums w m = eqb (get_or m w 0) (sum_of (take w m)).high && eqb (get_or m (w + 1) 0) (sum_of (take w m)).low

-- contents of w bytes: 3 for the length, then 4 for the end, then 5 for the checksum
unfoldable pub opening : Bool → ℕ → List ℕ → Verdict
opening checksum w m =
    cond (eqb (length m) (w + ending_width checksum))
    (cond (is_ended m) (cond checksum (cond (sums w m) (Ok tt) (Err Checksum)) (Ok tt)) (Err End))
    (Err (Length (length m)))
