-- The box as its driver calls it: restarts, and what is asked of the port of a number. Each port becomes what the base's calls make of it.
use Rattle.std.specs.Prelude.{ℕ, ◌+◌, Bool, true, false, cond, List, [], ◌∷◌, ◌++◌, Option, None, Some}
use Rattle.std.proofs.Math.Option as machine
use Rattle.std.proofs.Math.Option.{none, some}
use Rattle.machine.specs.Machine.{listed}
use Rattle.fixed.specs.declared.Settings.{Settings}
use Rattle.units.specs.declared.Measurement.{Measurement}
use Rattle.line.specs.declared.Line.{Line}
use Rattle.rules.specs.Lens.{Turn}
use Rattle.walk.specs.Calls.{Held}
use Rattle.walk.specs.Calls as one
use Rattle.walk.specs.InCalls.{slots_in, taken_by, acted_by}
use Rattle.connectors.specs.declared.Side.{Side}
use Rattle.connectors.specs.declared.Side.TheVariants.{Camera, External}
use Rattle.connectors.specs.declared.Connectors.{Connectors}
use Rattle.connectors.specs.declared.Lines.{Lines}
use Rattle.connectors.specs.Connectors.{side_of, port_at, with_port, line_at, with_line, start_both}
use Rattle.isolation.specs.Turns.{turns_in}

-- ---- what the driver keeps: the box, and both ports' lines

pub record Both : Type 0 where
  pub connectors : Connectors
  pub lines : Lines

-- of one port, what the driver of one port keeps
abbrev pub held_at : Both → Side → Held
held_at h a = record { port = port_at h.connectors a; line = line_at h.lines a }

abbrev pub with_held : Both → Side → Held → Both
with_held h a x = record { connectors = with_port h.connectors a x.port; lines = with_line h.lines a x.line }

abbrev pub is_side : Side → Side → Bool
is_side Camera Camera = true
is_side Camera External = false
is_side External Camera = false
is_side External External = true

-- is it this port that a number names
abbrev pub is_at : Side → Option Side → Bool
is_at a (Some b) = is_side a b
is_at a None = false

-- ---- calls

-- what is asked of a port
pub data Asked : Type 0 where
  receive : ℕ → Asked
  slots_once : Asked
  measure : Measurement → Asked
  fill : ℕ → Asked

abbrev pub asks : Asked → one.Call
asks (receive b) = one.receive b
asks slots_once = one.slots_once
asks (measure m) = one.measure m
asks (fill n) = one.fill n

-- a restart, with settings and both measurements; or something asked of the port of a number
pub data Call : Type 0 where
  restart : Settings → Measurement → Measurement → Call
  on : ℕ → Asked → Call

-- what it leaves
abbrev pub after_in : Both → Option Side → Asked → Both
after_in h (Some a) q = with_held h a (one.after (held_at h a) (asks q))
after_in h None q = h

abbrev pub after : Both → Call → Both
after h (restart s camera external) =
    let r = start_both h.connectors h.lines s camera external in
    record { connectors = r.connectors; lines = r.lines }
after h (on n q) = after_in h (side_of n) q

unfoldable pub after_all : Both → List Call → Both
after_all h [] = h
after_all h (c ∷ cs) = after_all (after h c) cs

-- ---- of a list of calls, what one port has of it

-- the calls that are this port's own: restarts, and what is asked of it
abbrev pub is_own : Side → Call → Bool
is_own a (restart s camera external) = true
is_own a (on n q) = is_at a (side_of n)

unfoldable pub own_calls : Side → List Call → List Call
own_calls a [] = []
own_calls a (c ∷ cs) = cond (is_own a c) (c ∷ []) [] ++ own_calls a cs

-- the bytes that it sends, the slots that it runs, the lines that it takes and those that it acts on
abbrev pub bytes_in : Side → Both → Call → List ℕ
bytes_in a h (restart s camera external) = []
bytes_in a h (on n q) = cond (is_at a (side_of n)) (one.bytes (held_at h a) (asks q)) []

unfoldable pub bytes_at : Side → Both → List Call → List ℕ
bytes_at a h [] = []
bytes_at a h (c ∷ cs) = bytes_in a h c ++ bytes_at a (after h c) cs

abbrev pub slots_by : Side → Both → Call → ℕ
slots_by a h (restart s camera external) = 0
slots_by a h (on n q) = cond (is_at a (side_of n)) (slots_in (held_at h a) (asks q)) 0

unfoldable pub slots_at : Side → Both → List Call → ℕ
slots_at a h [] = 0
slots_at a h (c ∷ cs) = slots_by a h c + slots_at a (after h c) cs

abbrev pub taken_in : Side → Both → Call → List Line
taken_in a h (restart s camera external) = []
taken_in a h (on n q) = cond (is_at a (side_of n)) (taken_by (held_at h a) (asks q)) []

unfoldable pub taken_at : Side → Both → List Call → List Line
taken_at a h [] = []
taken_at a h (c ∷ cs) = taken_in a h c ++ taken_at a (after h c) cs

abbrev pub acted_in : Side → Both → Call → List Line
acted_in a h (restart s camera external) = []
acted_in a h (on n q) = cond (is_at a (side_of n)) (acted_by (held_at h a) (asks q)) []

unfoldable pub acted_at : Side → Both → List Call → List Line
acted_at a h [] = []
acted_at a h (c ∷ cs) = acted_in a h c ++ acted_at a (after h c) cs

-- ---- as the base's port sees the box: its own calls, and a turn of the letter where the other port acts on X or Y in running

-- the first of the lines that a call acts on, which is the only one
abbrev pub turn_on : Held → List Line → machine.Option Turn
turn_on h [] = none
turn_on h (l ∷ ls) = turns_in h.port.source.modes.state l

-- the turn, if any, that something asked of a port makes
abbrev pub turn_by : Held → Asked → machine.Option Turn
turn_by h q = turn_on h (acted_by h (asks q))

-- the turns that the other port makes in a list of calls
abbrev pub turns_for : Side → Both → Option Side → Asked → List Turn
turns_for a h (Some b) q = cond (is_side a b) [] (listed (turn_by (held_at h b) q))
turns_for a h None q = []

abbrev pub turns_from : Side → Both → Call → List Turn
turns_from a h (restart s camera external) = []
turns_from a h (on n q) = turns_for a h (side_of n) q

unfoldable pub turns_at : Side → Both → List Call → List Turn
turns_at a h [] = []
turns_at a h (c ∷ cs) = turns_from a h c ++ turns_at a (after h c) cs

-- as calls of the base's port
abbrev pub turn_calls : machine.Option Turn → List one.Call
turn_calls none = []
turn_calls (some t) = one.turn t ∷ []

abbrev pub seen_in : Side → Both → Option Side → Asked → List one.Call
seen_in a h (Some b) q = cond (is_side a b) (asks q ∷ []) (turn_calls (turn_by (held_at h b) q))
seen_in a h None q = []

abbrev pub seen_by : Side → Both → Call → List one.Call
seen_by a h (restart s camera external) = []
seen_by a h (on n q) = seen_in a h (side_of n) q

unfoldable pub seen_at : Side → Both → List Call → List one.Call
seen_at a h [] = []
seen_at a h (c ∷ cs) = seen_by a h c ++ seen_at a (after h c) cs
