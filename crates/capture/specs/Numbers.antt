-- The numbers of a capture: two hex digits of either case; 1 to 9 decimal digits, in M with a minus before them or none.
use Rattle.std.specs.Prelude.{ℕ, ◌+◌, ◌-◌, Bool, true, false, cond, List, [], ◌∷◌, eqb, ℤ, pos, negsuc, None, Option, Some}
use Rattle.laws.specs.Within.{within}
use Rattle.sign.specs.Sign.{signed_of}
use Rattle.digits.specs.Digits.{read_decimal}

-- 0..9, A..F, a..f
unfoldable pub hex_value : ℕ → Option ℕ
hex_value d =
    cond (within 48 57 d) (Some (d - 48))
    (cond (within 65 70 d) (Some (d - 65 + 10))
    (cond (within 97 102 d) (Some (d - 97 + 10)) None))

abbrev pub nine_digits : ℕ
nine_digits = 999999999

-- 1 to 9 digits, leading zeros allowed
unfoldable pub digits_of : List ℕ → Option ℕ
digits_of [] = None
digits_of (d ∷ s) = read_decimal nine_digits (d ∷ s)

abbrev pub whole_by : Bool → Option ℕ → Option ℤ
whole_by below (Some n) = Some (signed_of below n)
whole_by below None = None

-- "a minus only in M, before the digits and not counted" (45 is the minus)
unfoldable pub whole_of : List ℕ → Option ℤ
whole_of [] = None
whole_of (b ∷ s) = cond (eqb b 45) (whole_by true (digits_of s)) (whole_by false (digits_of (b ∷ s)))

abbrev pub is_value : Option ℤ → Bool
is_value (Some n) = true
is_value None = false

abbrev pub whole_value : Option ℤ → ℤ
whole_value (Some n) = n
whole_value None = pos 0

abbrev pub is_whole : List ℕ → Bool
is_whole w = is_value (whole_of w)

-- the number that a word is; 0 where it is none
abbrev pub word_value : List ℕ → ℤ
word_value w = whole_value (whole_of w)

-- a field that holds no number below zero is handed one that is more than any field holds
abbrev pub beyond : ℕ
beyond = 4294967295

abbrev pub field_for : ℤ → ℕ
field_for (pos n) = n
field_for (negsuc n) = beyond
