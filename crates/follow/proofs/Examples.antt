-- The request's examples, and one of both ports: computed. Assumes nothing.
use mathlib.Core.Bool.{true}
use mathlib.Core.List.{[], ◌∷◌}
use mathlib.Core.Path.{◌≡◌, refl}
use Rattle.laws.specs.Every.{every}
use Rattle.laws.specs.Over.{over as written}
use Rattle.laws.specs.Within.{within}
use Rattle.digits.specs.Digits.{digits, value, read_digits, read_field}
use Rattle.codec.specs.Codec.{failing, first, text_ok}
use Rattle.stop.specs.Stop.{stop_ok}
use Rattle.record.specs.Record.{front_lowest, middle_lowest, back_lowest, figures_lowest}
use Rattle.fixed.specs.Fixed.{kind_ok, letter_ok, lens_lowest, fixed_lowest, settings_lowest}
use Rattle.units.specs.Units.{by_unit}
use Rattle.units.specs.Measurement.{measurement_lowest, measurement_verdict}
use Rattle.line.specs.Line.{zeros as lineZeros}
use Rattle.state.specs.State.{zeros as stateZeros, valid_modes, valid_message, valid_source}
use Rattle.rules.specs.Does.{is_on}
use Rattle.port.specs.Port.{start_of, start_verdict, handed, unit_of, slot_of, send_from, choose_of, rest_of, act_of, moved_if, valid_port}
use Rattle.connectors.specs.Connectors.{both_verdict, start_both}
use Rattle.capture.specs.Words.{before, behind, word, spaces, sole}
use Rattle.capture.specs.Numbers.{digits_of}
use Rattle.capture.specs.Capture.{slots_by, event_of}
use Rattle.printed.specs.Printed.{width_of, labelled, slots_text, after_slots, separator, hex_digit}
use Rattle.telling.specs.Telling.{start_with, tell_of, tells, slots_left}
use Rattle.runs.specs.Runs.{is_numbered, event_at, start_runs, tell_at}
use Rattle.follow.specs.Replay.{lines, tell_all, replay_with, replay_of}
use Rattle.follow.specs.Both.{tell_both, replay_both}

pub empty : replay_of [] ≡ 0x73 ∷ 0x6C ∷ 0x6F ∷ 0x74 ∷ 0x73 ∷ 0x20 ∷ 0x30 ∷ 0x0A ∷ []
unfolding replay_with tell_all lines start_with labelled width_of digits
empty = refl

pub four : replay_of (0x53 ∷ 0x20 ∷ 0x34 ∷ []) ≡
    0x33 ∷ 0x63 ∷ 0x20 ∷ 0x30 ∷ 0x61 ∷ 0x20 ∷ 0x30 ∷ 0x64 ∷ 0x20 ∷ 0x2D ∷ 0x2D ∷ 0x0A ∷ 0x73 ∷ 0x6C ∷ 0x6F ∷ 0x74 ∷ 0x73 ∷ 0x20 ∷ 0x34 ∷ 0x0A ∷ []
unfolding replay_with tell_all lines start_with labelled width_of digits value read_digits read_field before behind word spaces sole digits_of slots_by within event_of tell_of tells slots_left slots_text after_slots separator hex_digit start_of start_verdict handed unit_of settings_lowest measurement_verdict measurement_lowest figures_lowest front_lowest middle_lowest back_lowest failing first text_ok every kind_ok letter_ok lens_lowest fixed_lowest by_unit stop_ok slot_of send_from choose_of rest_of act_of moved_if valid_port valid_source valid_message valid_modes stateZeros lineZeros written is_on
four = refl

pub greetings : replay_both true (start_runs 73).runs (0x53 ∷ 0x20 ∷ 0x34 ∷ 0x0A ∷ 0x31 ∷ 0x20 ∷ 0x53 ∷ 0x20 ∷ 0x34 ∷ []) ≡
    0x33 ∷ 0x63 ∷ 0x20 ∷ 0x30 ∷ 0x61 ∷ 0x20 ∷ 0x30 ∷ 0x64 ∷ 0x20 ∷ 0x2D ∷ 0x2D ∷ 0x0A ∷
    0x33 ∷ 0x63 ∷ 0x20 ∷ 0x30 ∷ 0x61 ∷ 0x20 ∷ 0x30 ∷ 0x64 ∷ 0x20 ∷ 0x2D ∷ 0x2D ∷ 0x0A ∷
    0x73 ∷ 0x6C ∷ 0x6F ∷ 0x74 ∷ 0x73 ∷ 0x20 ∷ 0x38 ∷ 0x0A ∷ []
unfolding replay_both tell_both start_runs start_both both_verdict event_at is_numbered tell_at lines labelled width_of digits value read_digits read_field before behind word spaces sole digits_of slots_by within event_of tell_of tells slots_left slots_text after_slots separator hex_digit start_verdict unit_of settings_lowest measurement_verdict measurement_lowest figures_lowest front_lowest middle_lowest back_lowest failing first text_ok every kind_ok letter_ok lens_lowest fixed_lowest by_unit stop_ok slot_of send_from choose_of rest_of act_of moved_if valid_port valid_source valid_message valid_modes stateZeros lineZeros written is_on
greetings = refl
