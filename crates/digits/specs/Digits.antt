-- Numbers as digits, highest first, in base b, each digit sent as off + digit.
-- Text has decimal digits (base 10, on top of 30 hex); the packed form has groups of six bits, each under bits 01 (base 64, on top of 40 hex).
use Rattle.std.specs.Prelude.{ℕ, zero, suc, ◌+◌, ◌-◌, ◌*◌, ◌/◌, ◌%◌, ◌^◌, Bool, cond, ◌&&◌, List, [], ◌∷◌, length, nat_le, nat_lt, None, Option, Some}
use Rattle.laws.specs.Every.{every}

-- the w lowest digits of n
unfoldable pub digits : ℕ → ℕ → ℕ → ℕ → List ℕ
digits b off zero n = []
digits b off (suc w) n = (off + n / b ^ w % b) ∷ digits b off w n

-- what a list of digits says
unfoldable pub value : ℕ → ℕ → List ℕ → ℕ
value b off [] = 0
value b off (d ∷ ds) = (d - off) * b ^ length ds + value b off ds

-- d is one of the b digits
abbrev pub is_digit : ℕ → ℕ → ℕ → Bool
is_digit b off d = nat_le off d && nat_lt (d - off) b

abbrev pub are_digits : ℕ → ℕ → List ℕ → Bool
are_digits b off s = every (is_digit b off) s

-- the value, where the test holds
abbrev pub only : Bool → ℕ → Option ℕ
only ok n = cond ok (Some n) None

-- digits that say a number of at most top
unfoldable pub read_digits : ℕ → ℕ → ℕ → List ℕ → Option ℕ
read_digits b off top s = only (are_digits b off s && nat_le (value b off s) top) (value b off s)

-- no field takes more bytes; nine decimal digits fit 32 bits
abbrev pub widest : ℕ
widest = 9

-- a field of digits
unfoldable pub read_field : ℕ → ℕ → ℕ → List ℕ → Option ℕ
read_field b off top s = cond (nat_le (length s) widest) (read_digits b off top s) None

abbrev pub decimal : ℕ → ℕ → List ℕ
decimal w n = digits 10 48 w n

abbrev pub groups : ℕ → ℕ → List ℕ
groups w n = digits 64 64 w n

abbrev pub read_decimal : ℕ → List ℕ → Option ℕ
read_decimal top s = read_field 10 48 top s

abbrev pub read_groups : ℕ → List ℕ → Option ℕ
read_groups top s = read_field 64 64 top s
