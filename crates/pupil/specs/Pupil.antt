-- The entrance pupil: field 10, -999..999. Zero is written with plus, in both forms; other makers' minus zero is read
-- as zero ([5]).
use Rattle.std.specs.Prelude.{ℕ, ◌+◌, ◌/◌, ◌%◌, List, [], ◌∷◌, Bool, ◌&&◌, ◌||◌, cond, length, take, drop, get_or, leb, eqb, ℤ, None, Option, Some}
use Rattle.sign.specs.Sign.{size, below0, signed_of}
use Rattle.digits.specs.Digits.{read_decimal, read_groups}
use Rattle.codec.specs.Codec.{Got, got, wrong, Codec, passed, number, letter, tagged, ◌⊗◌, through}

abbrev pub pupil_ok : ℤ → Bool
pupil_ok z = leb (size z) 999

-- the number with this sign and size
abbrev pub pupil_by : Bool → ℕ → Got ℤ
pupil_by below n = passed (leb n 999) 10 (signed_of below n)

-- a code of zero besides the one that is sent
abbrev pub zero_too : {A : Type 0} → A → ℤ → List A
zero_too code z = cond (eqb (size z) 0) (code ∷ []) []

-- + or -
abbrev pub sign_byte : ℤ → ℕ
sign_byte z = cond (below0 z) 45 43

abbrev pub is_sign : ℕ → Bool
is_sign x = eqb x 43 || eqb x 45

-- E, sign, three digits
unfoldable pub pupil_text : Codec ℤ
pupil_text =
    tagged 69 10 (through 10 pupil_ok (λ z. (sign_byte z, size z)) (zero_too (45, 0)) (λ p. pupil_by (eqb p.0 45) p.1) (letter 10 is_sign ⊗ number 10 10 48 3 999))

-- sign and ten-bit magnitude in two groups: first byte 01S0xxxx, S is 1 for negative
abbrev pub pupil_code : ℤ → ℕ
pupil_code z = cond (below0 z) (2048 + size z) (size z)

unfoldable pub pupil_packed : Codec ℤ
pupil_packed = through 10 pupil_ok pupil_code (zero_too 2048) (λ k. pupil_by (eqb (k / 2048) 1) (k % 2048)) (number 10 64 64 2 4095)

-- ---- zero, as it is sent and as other makers send it

-- E+000, E-000
abbrev pub plus_text : List ℕ
plus_text = 69 ∷ 43 ∷ 48 ∷ 48 ∷ 48 ∷ []

abbrev pub minus_text : List ℕ
minus_text = 69 ∷ 45 ∷ 48 ∷ 48 ∷ 48 ∷ []

abbrev pub plus_packed : List ℕ
plus_packed = 0x40 ∷ 0x40 ∷ []

abbrev pub minus_packed : List ℕ
minus_packed = 0x60 ∷ 0x40 ∷ []

-- ---- what the code's readers answer

unfoldable pub signed_field : Bool → ℕ → Option ℤ
signed_field below n = cond (leb n 999) (Some (signed_of below n)) None

abbrev pub signed_in : Bool → Option ℕ → Option ℤ
signed_in below (Some n) = signed_field below n
signed_in below None = None

-- E and a sign
abbrev pub is_marked : ℕ → ℕ → Bool
is_marked a x = eqb a 69 && is_sign x

unfoldable pub read_pupil_text : List ℕ → Option ℤ
read_pupil_text s =
    cond (eqb (length s) 5)
    (cond (is_marked (get_or s 0 0) (get_or s 1 0)) (signed_in (eqb (get_or s 1 0) 45) (read_decimal 999 (take 3 (drop 2 s)))) None)
    None

abbrev pub code_in : Option ℕ → Option ℤ
code_in (Some k) = signed_field (eqb (k / 2048) 1) (k % 2048)
code_in None = None

unfoldable pub read_pupil_packed : List ℕ → Option ℤ
read_pupil_packed s = cond (eqb (length s) 2) (code_in (read_groups 4095 s)) None

-- what an answer says of field 10
unfoldable pub pupil_says : Option ℤ → Got ℤ
pupil_says (Some z) = got z
pupil_says None = wrong 10
