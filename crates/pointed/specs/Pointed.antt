-- A number in tenths: its whole part as w digits, a point, and the digit of its tenths (027.3 is 273 with three digits, 5.6 is 56 with one).
use Rattle.std.specs.Prelude.{ℕ, ◌+◌, ◌-◌, ◌*◌, ◌/◌, ◌%◌, List, [], ◌∷◌, ◌++◌, cond, length, take, drop, ltb, leb, None, Option, Some}
use Rattle.digits.specs.Digits.{only, decimal, read_decimal}
use Rattle.codec.specs.Codec.{Codec, passed, number, tagged, ◌⊗◌, through, read_tagged}

-- 2E hex
abbrev pub point : ℕ
point = 46

-- the characters of n
abbrev pub pointed_text : ℕ → ℕ → List ℕ
pointed_text w n = decimal w (n / 10) ++ (point ∷ decimal 1 (n % 10))

-- field i, a number of at most top with w digits before the point
unfoldable pub pointed : ℕ → ℕ → ℕ → Codec ℕ
pointed i w top =
    through i (λ n. leb n top)
    (λ n. (n / 10, n % 10))
    (λ n. [])
    (λ p. passed (leb (p.0 * 10 + p.1) top) i (p.0 * 10 + p.1))
    (number i 10 48 w (top / 10) ⊗ tagged point i (number i 10 48 1 9))

-- the two parts as one number of at most top
unfoldable pub with_tenths : ℕ → Option ℕ → Option ℕ → Option ℕ
with_tenths top (Some a) (Some b) = only (leb (a * 10 + b) top) (a * 10 + b)
with_tenths top (Some a) None = None
with_tenths top None f = None

-- digits, and a point and a digit in the last two bytes
unfoldable pub read_pointed : ℕ → List ℕ → Option ℕ
read_pointed top s =
    cond (ltb (length s) 2)
    None
    (with_tenths top (read_decimal (top / 10) (take (length s - 2) s)) (read_tagged point (read_decimal 9) (drop (length s - 2) s)))
