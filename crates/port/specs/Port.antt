-- The port's entries on its state by value: document 01's 'The port, slot by slot'. The contracts cite these.
use Rattle.std.specs.Prelude.{ℕ, ◌+◌, Bool, true, false, ◌&&◌, ◌||◌, cond, List, [], ◌∷◌, ltb, eqb, pos, get_or, replicate, Option, None, Some, is_some, Ok, Err}
use Rattle.refusal.specs.Answer.{Verdict}
use Rattle.refusal.specs.declared.Refusal.TheVariants as refusal
use Rattle.fixed.specs.declared.Settings.{Settings}
use Rattle.record.specs.Record.{no_figures}
use Rattle.fixed.specs.Fixed.{no_fixed, settings_lowest}
use Rattle.units.specs.declared.Measurement.{Measurement}
use Rattle.units.specs.Measurement.{measurement_verdict}
use Rattle.line.specs.declared.Line.{Line}
use Rattle.line.specs.Line.{blank, ends, joined, valid_line}
use Rattle.state.specs.declared.Last.{Last}
use Rattle.state.specs.declared.Last.TheVariants as last
use Rattle.state.specs.declared.Message.{Message}
use Rattle.state.specs.declared.Source.{Source}
use Rattle.state.specs.State.{unsent, valid_message, valid_source}
use Rattle.rules.specs.Does.{with_modes, rate_moved, does, counts, continuous, record_message}
use Rattle.rules.specs.Lens.{start_modes, greeting}
use Rattle.port.specs.declared.Port.{Port}
use Rattle.port.specs.declared.Slotted.{Slotted}
use Rattle.port.specs.declared.Received.{Received}
use Rattle.port.specs.declared.Handed.{Handed}
use Rattle.port.specs.declared.Started.{Started}

-- the line that waits, if one does
abbrev pub valid_waiting : Option Line → Bool
valid_waiting (Some l) = valid_line l
valid_waiting None = true

-- 16 covers the source, the message under way and the line that waits
unfoldable pub valid_port : Port → Bool
valid_port p = valid_source p.source && (valid_message p.message && valid_waiting p.waiting)

-- ---- a slot

-- the last byte of a message moves the rate
unfoldable pub moved_if : Bool → Source → Source
moved_if ended s = cond ended (with_modes s (rate_moved s.modes)) s

-- the message under way has been sent up to a place
abbrev pub sent_up_to : Port → ℕ → Port
sent_up_to p at = record {
  source = moved_if (eqb at p.message.len) p.source;
  message = record { bytes = p.message.bytes; len = p.message.len; at = at };
  last = p.last;
  waiting = p.waiting;
}

-- the byte at a place leaves
unfoldable pub send_from : Port → ℕ → Slotted
send_from p at = record { sent = Ok (Some (get_or p.message.bytes at 0)); port = sent_up_to p (at + 1) }

-- a message starts: its first byte leaves
unfoldable pub begun_with : Source → Message → Last → Option Line → Slotted
begun_with s m k w = send_from (record { source = s; message = m; last = k; waiting = w }) 0

abbrev pub begins : Source → List ℕ → Last → Option Line → Slotted
begins s xs k w = begun_with s (unsent xs) k w

-- rules 1 and 3: a record starts
unfoldable pub begins_record : Port → Slotted
begins_record p = begins p.source (record_message p.source) last.Record p.waiting

-- rules 3 and 4: a record, where continuous sending is on; else the slot is idle
unfoldable pub rest_of : Port → Slotted
rest_of p = cond (continuous p.source) (begins_record p) (record { sent = Ok None; port = p })

-- < counts as neither
abbrev pub reply_last : Bool → Last
reply_last true = last.Reply
reply_last false = last.Neither

abbrev pub freed : Port → Source → Port
freed p s = record { source = s; message = p.message; last = p.last; waiting = None }

-- a reply starts, if there is one; the waiting place is free
unfoldable pub answers : Port → Source → List ℕ → Last → Slotted
answers p s [] k = rest_of (freed p s)
answers p s (b ∷ bs) k = begins s (b ∷ bs) k None

-- rule 2: the command that waits is acted on
unfoldable pub act_of : Port → Line → Slotted
act_of p l =
    let d = does p.source l in
    answers p d.source d.reply (reply_last (counts p.source l))

-- rules 2 to 4
abbrev pub act_or_rest : Port → Option Line → Slotted
act_or_rest p (Some l) = act_of p l
act_or_rest p None = rest_of p

abbrev pub is_reply : Last → Bool
is_reply last.Reply = true
is_reply last.Record = false
is_reply last.Neither = false

-- rules 1 to 4, where no message is under way
unfoldable pub choose_of : Port → Slotted
choose_of p =
    cond (continuous p.source && is_reply p.last) (begins_record p) (act_or_rest p p.waiting)

unfoldable pub slot_of : Port → Slotted
slot_of p =
    cond (valid_port p)
    (cond (ltb p.message.at p.message.len) (send_from p p.message.at) (choose_of p))
    (record { sent = Err refusal.State; port = p })

-- ---- a received byte

abbrev pub taken_port : Port → Line → Port
taken_port p l = record { source = p.source; message = p.message; last = p.last; waiting = Some l }

-- where it ends, at CR, the line is emptied: taken where no command waits, else dropped
unfoldable pub taken_of : Port → Line → Received
taken_of p l =
    cond (is_some p.waiting)
    (record { verdict = Err refusal.Dropped; port = p; line = blank })
    (record { verdict = Ok tt; port = taken_port p l; line = blank })

unfoldable pub receive_of : Port → Line → ℕ → Received
receive_of p l b =
    cond (valid_port p && valid_line l)
    (cond (ends l b) (taken_of p l) (record { verdict = Ok tt; port = p; line = joined l b }))
    (record { verdict = Err refusal.State; port = p; line = l })

-- ---- a measurement, a start

abbrev pub measured_port : Port → Measurement → Port
measured_port p m = record {
  source = record { settings = p.source.settings; measurement = m; modes = p.source.modes };
  message = p.message;
  last = p.last;
  waiting = p.waiting;
}

-- what a verdict hands back: the new port, or the old one
unfoldable pub handed : Verdict → Port → Port → Handed
handed (Ok tt) new old = record { verdict = Ok tt; port = new }
handed (Err r) new old = record { verdict = Err r; port = old }

unfoldable pub measure_of : Port → Measurement → Handed
measure_of p m =
    cond (valid_port p) (handed (measurement_verdict m) (measured_port p m) p) (record { verdict = Err refusal.State; port = p })

-- unit by the start-up letter: I, B imperial; M, b metric
unfoldable pub unit_of : ℕ → ℕ
unit_of l = cond (eqb l 73 || eqb l 66) 73 77

abbrev pub started_with : Settings → Measurement → ℕ → Message → Port
started_with s m unit message = record {
  source = record { settings = s; measurement = m; modes = start_modes unit };
  message = message;
  last = last.Neither;
  waiting = None;
}

-- a start leaves < LF CR to be sent, no command waiting, and the unit is by the start-up letter
abbrev pub started_port : Settings → Measurement → Port
started_port s m = started_with s m (unit_of s.fixed.lens.letter) (unsent greeting)

-- before the first start: zeros for settings and measurement, which no entry but a start takes
abbrev pub unstarted : Port
unstarted =
    started_port
    (record { fixed = no_fixed; maker = replicate 15 0; type_name = replicate 30 0; blur = replicate 32 0 })
    (record { unit = 0; figures = no_figures; temperature = pos 0 })

-- 8 with the lowest item, then 1 with the lowest field; never 16
unfoldable pub start_verdict : Settings → Measurement → Verdict
start_verdict s m = cond (eqb (settings_lowest s) 0) (measurement_verdict m) (Err (refusal.Setting (settings_lowest s)))

-- the line that a verdict on a start leaves: an empty one, or the old one
abbrev pub line_by : Verdict → Line → Line
line_by (Ok tt) line = blank
line_by (Err r) line = line

-- what a verdict on a start hands back: the new port and an empty line, or the old ones
abbrev pub started_by : Verdict → Port → Port → Line → Started
started_by v new old line = record { verdict = (handed v new old).verdict; port = (handed v new old).port; line = line_by v line }

unfoldable pub start_of : Port → Line → Settings → Measurement → Started
start_of old line s m = started_by (start_verdict s m) (started_port s m) old line
