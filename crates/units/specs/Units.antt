-- The two units, how far numbers reach in each, and the conversion between them. Letters stand as their bytes: 73 is I, 77 is M.
use Rattle.std.specs.Prelude.{ℕ, ◌+◌, ◌*◌, ◌/◌, ◌≤◌, ◌<◌, Bool, false, not, ◌&&◌, ◌||◌, cond, ◌≡◌, leb, eqb, ℤ, Ok}
use Rattle.refusal.specs.Answer.{Answer, unless}
use Rattle.sign.specs.Sign.{size, below0, signed_of}
use Rattle.refusal.specs.declared.Refusal.TheVariants.{Field}
use Rattle.record.specs.Record.{top_distance, top_pupil}

-- I: 0.1 inch, M: 1 mm
abbrev pub is_unit : ℕ → Bool
is_unit u = eqb u 73 || eqb u 77

-- the first for I, the second for M
unfoldable pub by_unit : ℕ → ℕ → ℕ → ℕ
by_unit u inch mm = cond (eqb u 73) inch mm

-- how many hundredths of a millimetre one unit is
abbrev pub hundredths : ℕ → ℕ
hundredths u = by_unit u 254 100

-- how far a distance and the pupil reach in 0.1 inch
abbrev pub inch_distance : ℕ
inch_distance = 3937007

abbrev pub inch_pupil : ℕ
inch_pupil = 393

-- how far a distance reaches
abbrev pub top_in : ℕ → ℕ
top_in u = by_unit u inch_distance top_distance

-- how far the pupil reaches from zero
abbrev pub most_in : ℕ → ℕ
most_in u = by_unit u inch_pupil top_pupil

-- ---- nearest whole number, halves away from zero

-- on sizes: k - 1/2 ≤ n * num / den < k + 1/2
pub record Nearest (num den n k : ℕ) : Type 0 where
  pub low : den * (2 * k) ≤ 2 * (num * n) + den
  pub high : 2 * (num * n) < den * (2 * k + 1)

-- r is z of one unit in the other: the sign is kept, and zero is plus
pub record Converts (unit wanted : ℕ) (z r : ℤ) : Type 0 where
  pub nearest : Nearest (hundredths unit) (hundredths wanted) (size z) (size r)
  pub sign : 0 < size r → below0 r ≡ below0 z
  pub plus : size r ≡ 0 → below0 r ≡ false

-- how it is computed
abbrev pub rounded : ℕ → ℕ → ℕ → ℕ
rounded num den n = (num * n + den / 2) / den

-- 1 unit of 0.1 inch is exactly 2.54 mm; where the letters are alike the number is unchanged
unfoldable pub size_in : ℕ → ℕ → ℕ → ℕ
size_in unit wanted n = cond (eqb unit wanted) n (by_unit unit (rounded 254 100 n) (rounded 100 254 n))

unfoldable pub number_in : ℕ → ℕ → ℤ → ℤ
number_in unit wanted z = signed_of (below0 z) (size_in unit wanted (size z))

-- ---- the entry

-- four of the five fields that are converted; the fifth is 10, the pupil
abbrev pub is_distance : ℕ → Bool
is_distance i = (eqb i 1 || eqb i 6) || (eqb i 7 || eqb i 8)

-- one of the five, and the number in its unit's range
unfoldable pub in_range : ℕ → ℤ → ℕ → Bool
in_range i z unit =
    cond (eqb i 10) (leb (size z) (most_in unit)) (is_distance i && (not (below0 z) && leb (size z) (top_in unit)))

-- what is then known of a distance
pub record Distance (z : ℤ) : Type 0 where
  pub plus : below0 z ≡ false
  pub small : size z ≤ top_distance

-- the letters first, then the field asked for
unfoldable pub conversion : ℕ → ℤ → ℕ → ℕ → Answer ℤ
conversion i z unit wanted =
    unless (is_unit unit && is_unit wanted) (Field 0) (unless (in_range i z unit) (Field i) (Ok (number_in unit wanted z)))
