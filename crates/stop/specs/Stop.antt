-- The ring stop (field 3, in tenths) and the tenth (field 4): the stop as three characters of text, and both as the shared pair of the packed form.
use Rattle.std.specs.Prelude.{ℕ, ◌+◌, ◌*◌, ◌/◌, ◌%◌, List, [], ◌∷◌, ◌++◌, Bool, ◌&&◌, ◌||◌, cond, length, take, get_or, ltb, leb, eqb, None, Option, Some}
use Rattle.digits.specs.Digits.{only, decimal, read_decimal}
use Rattle.codec.specs.Codec.{Codec, failing, first, both, field_says}
use Rattle.pointed.specs.Pointed.{point, pointed_text, read_pointed}

-- 0..99, or a multiple of 10 in 100..250
unfoldable pub stop_ok : ℕ → Bool
stop_ok s = ltb s 100 || (eqb (s % 10) 0 && leb s 250)

-- ---- as text

-- three characters: below 100 digit, point, digit (5.6); from 100 two digits and a point (11.)
unfoldable pub stop_text : ℕ → List ℕ
stop_text s = cond (ltb s 100) (pointed_text 1 s) (decimal 2 (s / 10) ++ (point ∷ []))

-- two digits that say ten times what stands before the point: 10 to 25
unfoldable pub read_tens : Option ℕ → Option ℕ
read_tens (Some n) = only (leb 10 n) (n * 10)
read_tens None = None

-- the form is told by where the point stands
unfoldable pub read_stop_text : List ℕ → Option ℕ
read_stop_text s =
    cond (eqb (length s) 3)
    (cond (eqb (get_or s 1 0) point) (read_pointed 99 s) (cond (eqb (get_or s 2 0) point) (read_tens (read_decimal 25 (take 2 s))) None))
    None

unfoldable pub stop : Codec ℕ
stop = record { width = 3; lowest = λ s. failing (stop_ok s) 3; print = stop_text; also = λ s. []; parse = λ s. field_says 3 (read_stop_text s) }

-- ---- packed

-- the first byte is 1 and the low seven bits of the stop; the second is 1, bit 7 of the stop, 00, and the tenth
abbrev pub stop_pair : ℕ → ℕ → List ℕ
stop_pair s t = (128 + s % 128) ∷ (128 + 64 * (s / 128 % 2) + t % 16) ∷ []

-- the stop that the two bytes hold
abbrev pub stop_in : ℕ → ℕ → ℕ
stop_in x y = x % 128 + 128 * (y / 64 % 2)

-- the top bit of the first byte, and the stop's range
unfoldable pub read_stop : ℕ → ℕ → Option ℕ
read_stop x y = only (eqb (x / 128) 1 && stop_ok (stop_in x y)) (stop_in x y)

-- the rest of the second byte
unfoldable pub read_tenth : ℕ → Option ℕ
read_tenth y = only (eqb (y / 128) 1 && leb (y % 64) 9) (y % 64)

unfoldable pub pair : Codec (ℕ × ℕ)
pair = record {
  width = 2;
  lowest = λ p. first (failing (stop_ok p.0) 3) (failing (leb p.1 9) 4);
  print = λ p. stop_pair p.0 p.1;
  also = λ p. [];
  parse = λ s. both (field_says 3 (read_stop (get_or s 0 0) (get_or s 1 0))) (field_says 4 (read_tenth (get_or s 1 0)));
}
