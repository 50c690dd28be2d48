-- The starred figures, computed by the checker. Assumes nothing.
use mathlib.Core.Path.{refl}
use Rattle.laws.specs.Every.{every}
use Rattle.refusal.specs.Answer.{and_then, unless}
use Rattle.digits.specs.Digits.{digits, value, read_digits, read_field}
use Rattle.codec.specs.Codec.{failing, first, field_says, passed, both, mapped, chained, text_ok, read_tagged}
use Rattle.codec.specs.Places.{field_of}
use Rattle.frame.specs.Frame.{xor_from, sum_of, ending, is_ended, sums, opening}
use Rattle.frame.specs.Message.{found, afterwards, read_of, checked, room_for, then_write, write_of}
use Rattle.pointed.specs.Pointed.{pointed, with_tenths, read_pointed}
use Rattle.stop.specs.Stop.{stop_ok, stop_text, stop, read_stop, read_tenth, pair, read_stop_text}
use Rattle.pupil.specs.Pupil.{pupil_text, pupil_packed}
use Rattle.record.specs.Forms.{front_text, middle_text, back_text, front_packed, middle_packed, back_packed, serial, text_form, packed_form}
use Rattle.record.specs.Places.{text_places, packed_places}
use Rattle.fixed.specs.Fixed.{kind_ok, letter_ok}
use Rattle.fixed.specs.Form as fixed
use Rattle.units.specs.Units.{by_unit, size_in, number_in, in_range, conversion}
use Rattle.archive.specs.Old.{by_ten, old_zoom, old_back, old_form, form122}
use Rattle.archive.specs.Archive.{added, dropped, forward, back}
use Rattle.packed_bytes.specs.Bytes.{sixes}
use Rattle.transfer.specs.Transfer.{turned}
use Rattle.bench_lens.specs.Bench.{letter_of}
use Rattle.starred.specs.Starred.{like_r, record_r, Session, text_r, packed_r, Starred, Amended, OldLines, Turns, Numbered}

pub starred : Starred
unfolding like_r record_r text_r packed_r digits field_of packed_places xor_from sum_of ending pointed stop_text stop pair pupil_text pupil_packed front_text middle_text back_text front_packed middle_packed back_packed serial text_form packed_form unless by_unit size_in number_in in_range conversion
starred = record {
  record_as_text = refl;
  record_packed = refl;
  sum_of_bang = refl;
  sum_of_query = refl;
  distance_388 = refl;
  distance_9999999 = refl;
  pupil_37 = refl;
  pupil_minus_37 = refl;
  pupil_minus_999 = refl;
  zoom_1000 = refl;
  stop_250_tenth_9 = refl;
  mm_1000 = refl;
  mm_9999999 = refl;
  inch_25 = refl;
  inch_minus_25 = refl;
}

pub amended : Amended
unfolding digits value read_digits read_field field_says passed both chained pupil_text pupil_packed every like_r field_of text_places packed_places pointed stop_text stop pair front_text middle_text back_text front_packed middle_packed back_packed serial text_form packed_form
amended = record {
  sends_40_40 = refl;
  sends_plus_000 = refl;
  packed_60_40 = refl;
  packed_40_40 = refl;
  packed_60_41 = refl;
  packed_70_40 = refl;
  text_minus_000 = refl;
  text_plus_000 = refl;
  text_minus_001 = refl;
  text_space_000 = refl;
}

pub old_lines : OldLines
unfolding like_r record_r text_r digits value read_digits read_field field_says passed both chained mapped every text_ok read_tagged pointed with_tenths read_pointed stop_text stop read_stop_text pupil_text front_text middle_text back_text serial text_form old_back old_zoom old_form form122 by_ten is_ended opening ending found afterwards read_of unless and_then added dropped forward back
old_lines = record {
  r_at_057 = refl;
  sends_000 = refl;
  sends_100 = refl;
  reads_057 = refl;
  reads_100 = refl;
  past_101 = refl;
  without_point = refl;
  without_z = refl;
  forwards = refl;
  forwards_minus = refl;
  backs_lost = refl;
  r_of_122 = refl;
}

pub turns : Turns
unfolding like_r record_r text_r packed_r sixes digits value read_digits read_field field_says passed both chained mapped every read_tagged stop_ok read_stop read_tenth pair pupil_packed front_packed middle_packed back_packed packed_form pointed stop_text stop pupil_text front_text middle_text back_text serial text_form xor_from sum_of is_ended sums opening ending found afterwards read_of and_then turned
turns = record {
  r_plain = refl;
  r_summed = refl;
  minus_zero = refl;
  wrong_pupil = refl;
  text_sum = refl;
  plain_for_summed = refl;
  summed_for_plain = refl;
  r_said = refl;
}

pub session : Session
unfolding like_r record_r letter_of
session = record { measurement = refl; serial = λ letter. refl; letter = refl }

pub numbered : Numbered
unfolding like_r record_r text_r failing first kind_ok letter_ok digits value read_digits read_field field_says passed both chained mapped every text_ok read_tagged pointed with_tenths read_pointed stop_ok stop_text stop read_stop_text pupil_text front_text middle_text back_text serial text_form fixed.serial fixed.owner fixed.lens_items fixed.version fixed.fixed_form xor_from sum_of is_ended sums opening ending found afterwards read_of checked room_for then_write write_of unless and_then by_ten dropped back
numbered = record { one = refl; two = refl; three = refl; four = refl; five = refl; six = refl; eight = refl; eleven = refl }
