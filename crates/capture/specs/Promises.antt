-- Which lines are which events, said of their bytes and apart from how they are read: statements only.
use Rattle.std.specs.Prelude.{ℕ, suc, ◌+◌, ◌-◌, ◌*◌, ◌≤◌, true, List, [], ◌∷◌, ◌++◌, ◌↔◌, ◌⊎◌, ◌≢◌, ◌≡◌, ℤ, pos, negsuc, length, get_or, Err}
use Rattle.sign.specs.Sign.{signed_of}
use Rattle.refusal.specs.declared.Refusal.TheVariants.{Field}
use Rattle.digits.specs.Digits.{value, are_digits}
use Rattle.record.specs.declared.Figures.{Figures}
use Rattle.units.specs.Measurement.{measurement_verdict}
use Rattle.units.specs.declared.Measurement.{Measurement}
use Rattle.capture.specs.Words.{before}
use Rattle.capture.specs.Capture.{event_of}
use Rattle.capture.specs.declared.Event.TheVariants.{Received, Slots, Measured}

-- ---- R

-- a hex digit of either case, and what it says: 0..9, A..F, a..f
abbrev pub Hex : ℕ → ℕ → Type 0
Hex d x =
    ((48 ≤ d) × (d ≤ 57) × (x ≡ d - 48)) ⊎ ((65 ≤ d) × (d ≤ 70) × (x ≡ d - 55)) ⊎ ((97 ≤ d) × (d ≤ 102) × (x ≡ d - 87))

-- "`R hh`": the bytes R, space and two hex digits, the high one first
pub record SaysByte (s : List ℕ) (b : ℕ) : Type 0 where
  pub high : ℕ
  pub low : ℕ
  pub x : ℕ
  pub y : ℕ
  pub is : s ≡ 82 ∷ 32 ∷ high ∷ low ∷ []
  pub first : Hex high x
  pub second : Hex low y
  pub says : b ≡ 16 * x + y

-- ---- S

-- 1 to 9 digits that say n
pub record Number (w : List ℕ) (n : ℕ) : Type 0 where
  pub some : 1 ≤ length w
  pub few : length w ≤ 9
  pub every : are_digits 10 48 w ≡ true
  pub says : n ≡ value 10 48 w

-- "`S n`": the bytes S, space and a number, 1..999
pub record SaysSlots (s : List ℕ) (n : ℕ) : Type 0 where
  pub text : List ℕ
  pub is : s ≡ 83 ∷ 32 ∷ text
  pub number : Number text n
  pub low : 1 ≤ n
  pub high : n ≤ 999

-- ---- M

-- a number, or a minus and a number
pub data SignedNumber : List ℕ → ℤ → Type 0 where
  plain : {w : List ℕ} {n : ℕ} → Number w n → SignedNumber w (pos n)
  minus : {w : List ℕ} {n : ℕ} → Number w n → SignedNumber (45 ∷ w) (signed_of true n)

-- s is these numbers, a space behind each, and then t
pub data Spaced : List ℕ → List ℤ → List ℕ → Type 0 where
  none : {t : List ℕ} → Spaced t [] t
  next : {w s t : List ℕ} {z : ℤ} {zs : List ℤ} → SignedNumber w z → Spaced s zs t → Spaced (w ++ 32 ∷ s) (z ∷ zs) t

-- A..Z, a..z
abbrev pub IsLetter : ℕ → Type 0
IsLetter u = ((65 ≤ u) × (u ≤ 90)) ⊎ ((97 ≤ u) × (u ≤ 122))

-- what a field that holds no number below zero is given for one: more than any holds
abbrev pub given : ℤ → ℕ
given (pos n) = n
given (negsuc n) = 4294967295

-- fields 1 to 11, in their order; the pupil's offset may be below zero
unfoldable pub figures_from : List ℤ → Figures
figures_from zs = record {
  focus = given (get_or zs 0 (pos 0));
  aperture = given (get_or zs 1 (pos 0));
  stop = given (get_or zs 2 (pos 0));
  tenth = given (get_or zs 3 (pos 0));
  focal = given (get_or zs 4 (pos 0));
  hyperfocal = given (get_or zs 5 (pos 0));
  near = given (get_or zs 6 (pos 0));
  far = given (get_or zs 7 (pos 0));
  view = given (get_or zs 8 (pos 0));
  pupil = get_or zs 9 (pos 0);
  zoom = given (get_or zs 10 (pos 0));
}

-- "`M`": the bytes M and space, eleven numbers, a letter and one number more, each of them a space behind the one before
pub record SaysMeasurement (s : List ℕ) (m : Measurement) : Type 0 where
  pub numbers : List ℤ
  pub unit : ℕ
  pub text : List ℕ
  pub temperature : ℤ
  pub front : List ℕ
  pub is : s ≡ 77 ∷ 32 ∷ front
  pub eleven : length numbers ≡ 11
  pub spaced : Spaced front numbers (unit ∷ 32 ∷ text)
  pub letter : IsLetter unit
  pub last : SignedNumber text temperature
  pub says : m ≡ record { unit = unit; figures = figures_from numbers; temperature = temperature }

-- one of the fields that hold no number below zero was given one
abbrev pub Beyond : Figures → Type 0
Beyond f =
    (f.focus ≡ 4294967295) ⊎ (f.aperture ≡ 4294967295) ⊎ (f.stop ≡ 4294967295) ⊎ (f.tenth ≡ 4294967295) ⊎ (f.focal ≡ 4294967295) ⊎
    (f.hyperfocal ≡ 4294967295) ⊎ (f.near ≡ 4294967295) ⊎ (f.far ≡ 4294967295) ⊎ (f.view ≡ 4294967295) ⊎ (f.zoom ≡ 4294967295)

-- every other line is of other form
pub record Forms : Type 0 where
  pub received : (s : List ℕ) (b : ℕ) → (event_of s ≡ Received b) ↔ SaysByte s b
  pub slots : (s : List ℕ) (n : ℕ) → (event_of s ≡ Slots n) ↔ SaysSlots s n
  pub measured : (s : List ℕ) (m : Measurement) → (event_of s ≡ Measured m) ↔ SaysMeasurement s m
  -- and a number below zero where none may stand is refused by 1
  pub beyond : (m : Measurement) → Beyond m.figures → (i : ℕ) × (measurement_verdict m ≡ Err (Field i))

-- what stands before a byte
pub record OfBefore : Type 0 where
  pub none : (x : ℕ) → before x [] ≡ 0
  pub here : (x : ℕ) (s : List ℕ) → before x (x ∷ s) ≡ 0
  pub later : (x b : ℕ) (s : List ℕ) → b ≢ x → before x (b ∷ s) ≡ suc (before x s)
