-- The lens as an instance of the paper's machine, and what always holds of it.
use Rattle.std.specs.Prelude.{ℕ, ◌+◌, true, false, cond, List, [], ◌∷◌, ◌≡◌, leb}
use Rattle.refusal.specs.Answer.{is_done}
use Rattle.frame.specs.Frame.{ending_width}
use Rattle.record.specs.Forms.{text_length}
use Rattle.machine.specs.Machine.{Rules}
use Rattle.units.specs.declared.Measurement.{Measurement}
use Rattle.units.specs.Measurement.{measurement_verdict}
use Rattle.line.specs.declared.Line.{Line}
use Rattle.line.specs.Line.{blank, ends, joined}
use Rattle.state.specs.declared.Source.{Source}
use Rattle.state.specs.declared.State.TheVariants.{Ready}
use Rattle.state.specs.declared.Sending.TheVariants.{Off}
use Rattle.state.specs.declared.Modes.{Modes}
use Rattle.state.specs.State.{valid_source}
use Rattle.rules.specs.Does.{with_modes, rate_moved, letter_now, does, counts, continuous, record_message}

-- the commands that turn the start-up letter, B or b: X and Y
pub data Turn : Type 0 where
  by_x by_y : Turn

-- what is handed to the port between slots: a new measurement; and the turn that the other connector of a box made
pub data Given : Type 0 where
  measurement : Measurement → Given
  elsewhere : Turn → Given

-- a new measurement, where it is in range
unfoldable pub measured : Source → Measurement → Source
measured s m = cond (is_done (measurement_verdict m)) (record { settings = s.settings; measurement = m; modes = s.modes }) s

-- the letter that B or b becomes, here and elsewhere
abbrev pub turns_to : Turn → ℕ
turns_to by_x = 66
turns_to by_y = 98

-- X or Y elsewhere: the start-up letter, and nothing else
abbrev pub turned : Turn → Source → Source
turned t s = record { settings = letter_now (turns_to t) s.settings; measurement = s.measurement; modes = s.modes }

abbrev pub with_given : Source → Given → Source
with_given s (measurement m) = measured s m
with_given s (elsewhere t) = turned t s

-- what a start sets: ready, all modes off, film 00, rate number 6, this unit
abbrev pub start_modes : ℕ → Modes
start_modes unit = record { state = Ready; sending = Off; checksum = false; inhibit = false; film = 0; unit = unit; rate = 6; next_rate = 6 }

-- `<` LF CR
abbrev pub greeting : List ℕ
greeting = 60 ∷ 10 ∷ 13 ∷ []

-- the waiting place holds the line as taken; it is decided in the slot that acts on it
abbrev pub lens : Rules
lens = record {
  Modes = Source;
  Given = Given;
  Line = Line;
  Command = Line;
  blank = blank;
  join = joined;
  ends = ends;
  read = λ l. l;
  continuous = continuous;
  record_of = record_message;
  act = λ s l. (does s l).source;
  reply_to = λ s l. (does s l).reply;
  counts = counts;
  ended = λ s. with_modes s (rate_moved s.modes);
  update = with_given;
  greeting = greeting;
}

-- what a start leaves, and every event keeps: all in range, and no continuous sending before running
pub record Good (s : Source) : Type 0 where
  pub valid : valid_source s ≡ true
  pub ready_off : s.modes.state ≡ Ready → continuous s ≡ false

-- no reply, no record, no message is longer: the text record, with a checksum
abbrev pub longest_reply : ℕ
longest_reply = text_length + ending_width true

abbrev pub longest_record : ℕ
longest_record = text_length + ending_width true

abbrev pub longest_message : ℕ
longest_message = cond (leb longest_reply longest_record) longest_record longest_reply
