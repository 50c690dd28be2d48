-- What a replay prints, character by character: statements only.
use Rattle.std.specs.Prelude.{ℕ, suc, ◌*◌, ◌/◌, ◌%◌, ◌^◌, ◌≤◌, ◌<◌, true, [], ◌∷◌, ◌++◌, ◌⊎◌, ◌≢◌, ◌≡◌, length, get_or, None, Ok, Some}
use Rattle.refusal.specs.Refusal.{number_of}
use Rattle.refusal.specs.declared.Refusal.{Refusal}
use Rattle.refusal.specs.declared.Refusal.TheVariants as refusal
use Rattle.digits.specs.Digits.{value, are_digits}
use Rattle.port.specs.declared.Port.{Port}
use Rattle.port.specs.Port.{slot_of}
use Rattle.capture.specs.Numbers.{hex_value}
use Rattle.printed.specs.Printed.{hex_digit, slot_text, slots_text, numeral, refused_text, slots_line}

pub record Characters : Type 0 where
  -- "lowercase hex": 0..9 or a..f, and it reads back
  pub hex_digit_lem : (n : ℕ) → n < 16 → ((48 ≤ hex_digit n) × (hex_digit n ≤ 57)) ⊎ ((97 ≤ hex_digit n) × (hex_digit n ≤ 102))
  pub hex_back : (n : ℕ) → n < 16 → hex_value (hex_digit n) ≡ Some n
  -- the high half first, "`--` for an idle slot"
  pub byte : (b : ℕ) → slot_text (Ok (Some b)) ≡ hex_digit (b / 16) ∷ hex_digit (b % 16) ∷ []
  pub idle : slot_text (Ok None) ≡ 45 ∷ 45 ∷ []
  -- a number is its decimal digits, with no zero before them
  pub digits : (n : ℕ) → n < 10 ^ 6 → (are_digits 10 48 (numeral n) ≡ true) × (value 10 48 (numeral n) ≡ n)
  pub no_zero : (n : ℕ) → n < 10 ^ 6 → 10 ≤ n → get_or (numeral n) 0 0 ≢ 48
  pub one_digit : (n : ℕ) → n < 10 → length (numeral n) ≡ 1
  -- a line is its label, one space, the number and LF
  pub slots_line_lem : (n : ℕ) → slots_line n ≡ 0x73 ∷ 0x6C ∷ 0x6F ∷ 0x74 ∷ 0x73 ∷ 0x20 ∷ (numeral n ++ 10 ∷ [])
  pub refused_line : (x : Refusal) → refused_text x ≡ 0x72 ∷ 0x65 ∷ 0x66 ∷ 0x75 ∷ 0x73 ∷ 0x65 ∷ 0x64 ∷ 0x20 ∷ (numeral (number_of x) ++ 10 ∷ [])
  pub dropped_7 : number_of refusal.Dropped ≡ 7
  pub form_10 : number_of refusal.Form ≡ 10
  -- "separated by spaces", one line
  pub last_of_line : (p : Port) → slots_text 1 p ≡ slot_text (slot_of p).sent ++ 10 ∷ []
  pub spaced : (n : ℕ) (p : Port) → slots_text (suc (suc n)) p ≡ slot_text (slot_of p).sent ++ 32 ∷ slots_text (suc n) (slot_of p).port
  -- three characters a slot
  pub long : (n : ℕ) (p : Port) → length (slots_text n p) ≡ 3 * n
