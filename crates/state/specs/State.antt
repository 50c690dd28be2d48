-- What a handed-in part of the state must be: no count past its buffer or message, every number, letter and text byte in its range.
use Rattle.std.specs.Prelude.{ℕ, Bool, ◌&&◌, List, leb, eqb, length, replicate}
use Rattle.laws.specs.Over.{over}
use Rattle.refusal.specs.Answer.{is_done}
use Rattle.fixed.specs.Fixed.{settings_lowest}
use Rattle.units.specs.Units.{is_unit}
use Rattle.units.specs.Measurement.{measurement_verdict}
use Rattle.state.specs.declared.Modes.{Modes}
use Rattle.state.specs.declared.Source.{Source}
use Rattle.state.specs.declared.Message.{Message}

-- the message buffer
abbrev pub message_length : ℕ
message_length = 128

unfoldable pub zeros : List ℕ
zeros = replicate message_length 0

-- a message about to be sent: its bytes in a fresh buffer of zeros
abbrev pub unsent : List ℕ → Message
unsent xs = record { bytes = over zeros 0 xs; len = length xs; at = 0 }

unfoldable pub valid_modes : Modes → Bool
valid_modes m = leb m.film 31 && (is_unit m.unit && (leb m.rate 7 && leb m.next_rate 7))

unfoldable pub valid_message : Message → Bool
valid_message m = leb m.len message_length && leb m.at m.len

unfoldable pub valid_source : Source → Bool
valid_source s = eqb (settings_lowest s.settings) 0 && (is_done (measurement_verdict s.measurement) && valid_modes s.modes)
