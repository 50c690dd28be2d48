-- What a command does, and what it answers: document 01's table as the requests amend it, line by line. Letters stand as their bytes: 33 is !, 60 is <, 63 is ?.
use Rattle.std.specs.Prelude.{ℕ, ◌+◌, Bool, true, false, ◌||◌, cond, List, [], ◌∷◌, eqb, get_or}
use Rattle.digits.specs.Digits.{decimal}
use Rattle.frame.specs.Frame.{framed}
use Rattle.record.specs.Forms.{text_form, packed_form}
use Rattle.record.specs.declared.Record.{Record}
use Rattle.fixed.specs.Form.{fixed_form}
use Rattle.fixed.specs.declared.Fixed.{Fixed}
use Rattle.fixed.specs.declared.Settings.{Settings}
use Rattle.units.specs.Measurement.{record_in, degrees}
use Rattle.line.specs.declared.Line.{Line}
use Rattle.line.specs.Command.{command_of}
use Rattle.line.specs.declared.Command.{Command}
use Rattle.line.specs.declared.Command.TheVariants.{B, C, D, G, H, Ka, Kb, Kc, Kd, K3, K4, N, P, «V», W, X, Y, Unknown}
use Rattle.state.specs.declared.State.{State}
use Rattle.state.specs.declared.State.TheVariants.{Ready, Running}
use Rattle.state.specs.declared.Sending.{Sending}
use Rattle.state.specs.declared.Sending.TheVariants as sending
use Rattle.state.specs.declared.Modes.{Modes}
use Rattle.state.specs.declared.Source.{Source}

-- ---- the effects: one part made anew

abbrev pub with_modes : Source → Modes → Source
with_modes s m = record { settings = s.settings; measurement = s.measurement; modes = m }

abbrev pub sending_now : Sending → Modes → Modes
sending_now x m = record { state = m.state; sending = x; checksum = m.checksum; inhibit = m.inhibit; film = m.film; unit = m.unit; rate = m.rate; next_rate = m.next_rate }

abbrev pub running_now : Modes → Modes
running_now m = record { state = Running; sending = m.sending; checksum = m.checksum; inhibit = m.inhibit; film = m.film; unit = m.unit; rate = m.rate; next_rate = m.next_rate }

abbrev pub checksum_now : Modes → Modes
checksum_now m = record { state = m.state; sending = m.sending; checksum = true; inhibit = m.inhibit; film = m.film; unit = m.unit; rate = m.rate; next_rate = m.next_rate }

abbrev pub inhibit_now : Modes → Modes
inhibit_now m = record { state = m.state; sending = m.sending; checksum = m.checksum; inhibit = true; film = m.film; unit = m.unit; rate = m.rate; next_rate = m.next_rate }

-- continuous, checksum, inhibit off, no other change
abbrev pub quiet_now : Modes → Modes
quiet_now m = record { state = m.state; sending = sending.Off; checksum = false; inhibit = false; film = m.film; unit = m.unit; rate = m.rate; next_rate = m.next_rate }

abbrev pub film_now : ℕ → Modes → Modes
film_now n m = record { state = m.state; sending = m.sending; checksum = m.checksum; inhibit = m.inhibit; film = n; unit = m.unit; rate = m.rate; next_rate = m.next_rate }

abbrev pub unit_now : ℕ → Modes → Modes
unit_now u m = record { state = m.state; sending = m.sending; checksum = m.checksum; inhibit = m.inhibit; film = m.film; unit = u; rate = m.rate; next_rate = m.next_rate }

-- the rate that follows when the message under way ends
abbrev pub rate_next : ℕ → Modes → Modes
rate_next n m = record { state = m.state; sending = m.sending; checksum = m.checksum; inhibit = m.inhibit; film = m.film; unit = m.unit; rate = m.rate; next_rate = n }

-- the last byte of every message moves it into the rate
abbrev pub rate_moved : Modes → Modes
rate_moved m = record { state = m.state; sending = m.sending; checksum = m.checksum; inhibit = m.inhibit; film = m.film; unit = m.unit; rate = m.next_rate; next_rate = m.next_rate }

-- letter B or b becomes this one; I and M stay
unfoldable pub relettered : ℕ → ℕ → ℕ
relettered to l = cond (eqb l 66 || eqb l 98) to l

abbrev pub fixed_with : ℕ → Fixed → Fixed
fixed_with l f = record {
  serial = f.serial;
  owner = f.owner;
  lens = record { kind = f.lens.kind; focal = f.lens.focal; maximum = f.lens.maximum; letter = l; transmission = f.lens.transmission };
  version = f.version;
}

abbrev pub lettered_with : ℕ → Settings → Settings
lettered_with l s = record { fixed = fixed_with l s.fixed; maker = s.maker; type_name = s.type_name; blur = s.blur }

abbrev pub letter_now : ℕ → Settings → Settings
letter_now to s = lettered_with (relettered to s.fixed.lens.letter) s

-- the display unit, and the start-up letter
abbrev pub unit_with : ℕ → ℕ → Source → Source
unit_with u to s = record { settings = letter_now to s.settings; measurement = s.measurement; modes = unit_now u s.modes }

-- ---- the bodies

-- the record of the measurement in the display unit, with the serial of the settings
abbrev pub record_now : Source → Record
record_now s = record_in s.modes.unit s.measurement s.settings.fixed.serial

-- 0.0 and three digits: the blur circle of a film
abbrev pub blur_of : ℕ → Settings → List ℕ
blur_of n s = 48 ∷ 46 ∷ 48 ∷ decimal 3 (get_or s.blur n 0)

-- in this form; where continuous sending is off, as text
unfoldable pub record_is : Sending → Source → List ℕ
record_is sending.Off s = text_form.print (record_now s)
record_is sending.Text s = text_form.print (record_now s)
record_is sending.Packed s = packed_form.print (record_now s)

-- ---- a command acted on: the source after it, and its reply, [] where it has none

pub record Outcome : Type 0 where
  pub source : Source
  pub reply : List ℕ

-- replies are written under the modes after the command
unfoldable pub replies : Source → List ℕ → Outcome
replies s body = record { source = s; reply = framed s.modes.checksum body }

unfoldable pub silent : Source → Outcome
silent s = record { source = s; reply = [] }

-- a film, and its blur circle behind the letter
abbrev pub filmed : ℕ → ℕ → Source → Outcome
filmed letter n s = replies (with_modes s (film_now n s.modes)) (letter ∷ blur_of n s.settings)

-- in running, by the letters of the command
unfoldable pub runs : Source → Command → Outcome
runs s B = replies s (66 ∷ 32 ∷ s.settings.fixed.version)
runs s C = replies (with_modes s (sending_now sending.Text s.modes)) (33 ∷ [])
runs s D = replies s (record_is sending.Text s)
runs s G = replies (with_modes s (checksum_now s.modes)) (33 ∷ [])
runs s H = replies (with_modes s (quiet_now s.modes)) (33 ∷ [])
runs s Ka = replies (with_modes s (inhibit_now s.modes)) (33 ∷ [])
runs s (Kb n) = replies (with_modes s (rate_next n s.modes)) (75 ∷ 98 ∷ (48 + n) ∷ 33 ∷ [])
runs s Kc = replies (with_modes s (sending_now sending.Packed s.modes)) (33 ∷ [])
runs s Kd = replies s (record_is sending.Packed s)
runs s K3 = replies s (75 ∷ 51 ∷ s.settings.maker)
runs s K4 = replies s (75 ∷ 52 ∷ s.settings.type_name)
runs s N = replies s (fixed_form.print s.settings.fixed)
runs s P = replies s (80 ∷ degrees s.measurement.temperature)
runs s «V» = filmed 86 0 s
runs s (W n) = filmed 87 n s
runs s X = replies (unit_with 73 66 s) (88 ∷ [])
runs s Y = replies (unit_with 77 98 s) (89 ∷ [])
runs s Unknown = cond s.modes.inhibit (silent s) (replies s (63 ∷ []))

-- in ready, N answers and moves to running; everything else answers <
unfoldable pub is_n : Command → Bool
is_n N = true
is_n B = false
is_n C = false
is_n D = false
is_n G = false
is_n H = false
is_n Ka = false
is_n (Kb n) = false
is_n Kc = false
is_n Kd = false
is_n K3 = false
is_n K4 = false
is_n P = false
is_n «V» = false
is_n (W n) = false
is_n X = false
is_n Y = false
is_n Unknown = false

abbrev pub wakes : Source → Outcome
wakes s = replies (with_modes s (running_now s.modes)) (fixed_form.print s.settings.fixed)

unfoldable pub readies : Source → Command → Outcome
readies s c = cond (is_n c) (wakes s) (replies s (60 ∷ []))

-- the decision, by the state, on the whole line
unfoldable pub does_in : State → Source → Line → Outcome
does_in Ready s l = readies s (command_of l)
does_in Running s l = runs s (command_of l)

-- the line that waited, acted on
unfoldable pub does : Source → Line → Outcome
does s l = does_in s.modes.state s l

-- how its reply counts once it is sent: < as neither
unfoldable pub counts_in : State → Line → Bool
counts_in Ready l = is_n (command_of l)
counts_in Running l = true

unfoldable pub counts : Source → Line → Bool
counts s l = counts_in s.modes.state l

-- ---- a record that continuous sending starts

unfoldable pub record_message : Source → List ℕ
record_message s = framed s.modes.checksum (record_is s.modes.sending s)

unfoldable pub is_on : Sending → Bool
is_on sending.Off = false
is_on sending.Text = true
is_on sending.Packed = true

abbrev pub continuous : Source → Bool
continuous s = is_on s.modes.sending
