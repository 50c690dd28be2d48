-- What the bytes of a packed record say, where the reader accepts them: each field from its own bytes, without a word of what is wrong.
use Rattle.std.specs.Prelude.{ℕ, ◌+◌, ◌*◌, ◌/◌, ◌%◌, ◌^◌, Bool, true, false, cond, List, [], ◌∷◌, eqb, leb, ℤ, length, take, drop, get_or}
use Rattle.sign.specs.Sign.{signed_of}
use Rattle.codec.specs.Codec.{Got, got, wrong}
use Rattle.stop.specs.Stop.{stop_in}
use Rattle.record.specs.Forms.{Front, Middle, Back, of_parts}
use Rattle.record.specs.declared.Record.{Record}

-- a value was found
abbrev pub is_got : {A : Type 0} → Got A → Bool
is_got (got a) = true
is_got (wrong i) = false

-- the low six bits of each byte, as one number
unfoldable pub sixes : List ℕ → ℕ
sixes [] = 0
sixes (d ∷ s) = d % 64 * 64 ^ length s + sixes s

-- of up to five bytes, which is what a number has room for; of more 0
unfoldable pub packed_number : List ℕ → ℕ
packed_number s = cond (leb (length s) 5) (sixes s) 0

-- four bytes as one word, the first lowest; those of a list
abbrev pub quad_of : ℕ → ℕ → ℕ → ℕ → ℕ
quad_of a b c d = a + 256 * (b + 256 * (c + 256 * d))

abbrev pub quad_in : List ℕ → ℕ
quad_in s = quad_of (get_or s 0 0) (get_or s 1 0) (get_or s 2 0) (get_or s 3 0)

-- behind d
abbrev pub front_in : List ℕ → Front
front_in s = (sixes (take 4 (drop 1 s)), (sixes (take 2 (drop 5 s)), (stop_in (get_or s 7 0) (get_or s 8 0), get_or s 8 0 % 64)))

abbrev pub middle_in : List ℕ → Middle
middle_in s = (sixes (take 2 s), (sixes (take 4 (drop 2 s)), (sixes (take 4 (drop 6 s)), sixes (take 4 (drop 10 s)))))

-- sign and size in two groups; 60 40 is zero
abbrev pub pupil_in : ℕ → ℤ
pupil_in code = signed_of (eqb (code / 2048) 1) (code % 2048)

abbrev pub back_in : List ℕ → Back
back_in s = (sixes (take 2 s), (pupil_in (sixes (take 2 (drop 2 s))), sixes (take 2 (drop 4 s))))

-- the record, its serial behind S
abbrev pub packed_record : List ℕ → Record
packed_record m = of_parts ((front_in (take 9 m), (middle_in (take 14 (drop 9 m)), back_in (take 6 (drop 23 m)))), take 9 (drop 30 m))
