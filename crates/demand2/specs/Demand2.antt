-- Demand 2: "Each reply, text record, packed record, checksum and unit conversion is exactly what the Cooke documents and document 01 define. A reader
-- accepts exactly the messages the writer writes for sendable contents, and gives those contents back." [5] amends it: "From now on readers accept the
-- writers' messages and these two spellings." Statements only.
use Rattle.std.specs.Prelude.{ℕ, true, List, [], ◌≡◌, ℤ, Ok}
use Rattle.refusal.specs.declared.Refusal.TheVariants.{Field, Setting}
use Rattle.codec.specs.Codec.{text_ok}
use Rattle.codec.specs.Ranges.{LowestBy}
use Rattle.frame.specs.Faithful.{Faithful}
use Rattle.frame.specs.Refuses.{Refuses}
use Rattle.pupil.specs.Pupil.{plus_text, minus_text, plus_packed, minus_packed}
use Rattle.record.specs.Record.{record_lowest}
use Rattle.record.specs.Forms.{pupil_of, text_form, packed_form}
use Rattle.record.specs.Places.{text_places, packed_places}
use Rattle.record.specs.Ranges.{record_ranges}
use Rattle.fixed.specs.Fixed.{fixed_lowest, settings_lowest}
use Rattle.fixed.specs.Form.{fixed_form}
use Rattle.fixed.specs.Places.{fixed_places}
use Rattle.fixed.specs.declared.Fixed.{Fixed}
use Rattle.fixed.specs.Ranges.{fixed_ranges, settings_ranges}
use Rattle.units.specs.Units.{is_unit, Converts, conversion}
use Rattle.units.specs.Measurement.{measurement_verdict, record_in}
use Rattle.units.specs.Refuses.{UnitsRefuse}
use Rattle.units.specs.declared.Measurement.{Measurement}
use Rattle.demand2.specs.MinusZero.{MinusZero}

pub record Demand2 : Type 0 where
  -- "lowest field", "lowest item": the rules of what may be sent and set are document 01's tables of ranges
  pub record_rule : LowestBy record_lowest record_ranges
  pub fixed_rule : LowestBy fixed_lowest fixed_ranges
  pub settings_rule : LowestBy settings_lowest settings_ranges
  -- the text record, 76 or 78 bytes; the packed record, 41 or 43; one rule for both
  pub text : Faithful text_form record_lowest Field 76
  pub packed : Faithful packed_form record_lowest Field 41
  -- the fixed data, 67 or 69
  pub fixed : Faithful fixed_form fixed_lowest Setting 67
  -- [5]: minus zero is read as 0 in either form of a record, and comes out as plus zero; the N reader takes the writer's messages only
  pub text_zero : MinusZero text_form record_lowest pupil_of text_places 54 plus_text minus_text
  pub packed_zero : MinusZero packed_form record_lowest pupil_of packed_places 25 plus_packed minus_packed
  pub fixed_once : (f : Fixed) → fixed_form.also f ≡ []
  -- "No number is given outside its case; where no case holds, the entry does its work": 3, 4, 5, 6 for the readers, 1 or 8 and then 2 for the writers
  pub text_refuses : Refuses text_form record_lowest Field 76 text_places
  pub packed_refuses : Refuses packed_form record_lowest Field 41 packed_places
  pub fixed_refuses : Refuses fixed_form fixed_lowest Setting 67 fixed_places
  -- "1 unit of 0.1 inch is exactly 2.54 mm, nearest whole number, halves away from zero", in either direction
  pub converts : (field : ℕ) (z r : ℤ) (unit wanted : ℕ) → conversion field z unit wanted ≡ Ok r → Converts unit wanted z r
  -- "alike: number unchanged"
  pub alike : (field : ℕ) (z r : ℤ) (unit : ℕ) → conversion field z unit unit ≡ Ok r → r ≡ z
  -- the conversion's 1 and a measurement's, each exactly in its case
  pub units_refuse : UnitsRefuse
  -- "so each measurement is sendable in either unit": an accepted one, with a serial of nine text bytes
  pub sendable : (m : Measurement) (display : ℕ) (serial : List ℕ) → measurement_verdict m ≡ Ok tt → is_unit display ≡ true →
      text_ok 9 serial ≡ true → record_lowest (record_in display m serial) ≡ 0
