-- A line of a capture, without its LF: `R hh`, `S n`, or `M` and its words; every other is of other form.
use Rattle.std.specs.Prelude.{ℕ, zero, suc, ◌+◌, ◌*◌, Bool, true, cond, ◌&&◌, ◌||◌, List, eqb, length, get_or, None, Option, Some}
use Rattle.laws.specs.Within.{within}
use Rattle.record.specs.declared.Figures.{Figures}
use Rattle.units.specs.declared.Measurement.{Measurement}
use Rattle.capture.specs.Words.{word, spaces, sole}
use Rattle.capture.specs.Numbers.{hex_value, digits_of, is_whole, word_value, field_for}
use Rattle.capture.specs.declared.Event.{Event}
use Rattle.capture.specs.declared.Event.TheVariants.{Received, Slots, Measured, Other}

-- "`hh`: two hex digits, either case"
unfoldable pub received_by : Option ℕ → Option ℕ → Event
received_by (Some high) (Some low) = Received (high * 16 + low)
received_by (Some high) None = Other
received_by None low = Other

unfoldable pub received_of : List ℕ → Event
received_of w = cond (eqb (length w) 2) (received_by (hex_value (get_or w 0 0)) (hex_value (get_or w 1 0))) Other

-- "n slots, 1..999"
unfoldable pub slots_by : Option ℕ → Event
slots_by (Some n) = cond (within 1 999 n) (Slots n) Other
slots_by None = Other

abbrev pub slots_of : List ℕ → Event
slots_of w = slots_by (digits_of w)

-- A..Z, a..z
unfoldable pub is_letter : ℕ → Bool
is_letter b = within 65 90 b || within 97 122 b

-- the n words behind the first are numbers
unfoldable pub number_words : ℕ → List ℕ → Bool
number_words zero s = true
number_words (suc n) s = number_words n s && is_whole (word (suc n) s)

-- "`M`: eleven numbers, one letter, one number"
unfoldable pub is_measurement : List ℕ → Bool
is_measurement s = eqb (spaces s) 13 && (number_words 11 s && (is_letter (sole (word 12 s)) && is_whole (word 13 s)))

abbrev pub field_at : ℕ → List ℕ → ℕ
field_at k s = field_for (word_value (word k s))

-- fields 1 to 11
unfoldable pub figures_at : List ℕ → Figures
figures_at s = record {
  focus = field_at 1 s;
  aperture = field_at 2 s;
  stop = field_at 3 s;
  tenth = field_at 4 s;
  focal = field_at 5 s;
  hyperfocal = field_at 6 s;
  near = field_at 7 s;
  far = field_at 8 s;
  view = field_at 9 s;
  pupil = word_value (word 10 s);
  zoom = field_at 11 s;
}

unfoldable pub measurement_at : List ℕ → Measurement
measurement_at s = record { unit = sole (word 12 s); figures = figures_at s; temperature = word_value (word 13 s) }

-- the event that a line tells: R (82), S (83), M (77)
unfoldable pub event_of : List ℕ → Event
event_of s =
    let kind = sole (word 0 s) in
    let pair = eqb (spaces s) 1 in
    cond (eqb kind 82 && pair) (received_of (word 1 s))
    (cond (eqb kind 83 && pair) (slots_of (word 1 s))
    (cond (eqb kind 77 && is_measurement s) (Measured (measurement_at s)) Other))
