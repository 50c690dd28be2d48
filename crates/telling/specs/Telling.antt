-- What an event makes of a run: the text that it prints, and the run after it.
use Rattle.std.specs.Prelude.{ℕ, ◌+◌, ◌-◌, Bool, true, false, cond, ◌&&◌, ◌||◌, List, [], ◌≡◌, ltb, leb, Err, Ok}
use Rattle.laws.specs.Gives.{Gives}
use Rattle.laws.specs.Over.{over}
use Rattle.refusal.specs.Answer.{Answer}
use Rattle.refusal.specs.declared.Refusal.TheVariants.{Form, State}
use Rattle.bench_lens.specs.Bench.{bench_settings, bench_measurement}
use Rattle.line.specs.Line.{blank, valid_line}
use Rattle.port.specs.declared.Port.{Port}
use Rattle.port.specs.Port.{valid_port, receive_of, measure_of, unstarted, start_of}
use Rattle.capture.specs.declared.Event.{Event}
use Rattle.capture.specs.declared.Event.TheVariants.{Received, Slots, Measured, Other}
use Rattle.printed.specs.Printed.{slots_text, after_slots, refused_text, slots_line, verdict_text, printed_in}
use Rattle.telling.specs.declared.Run.{Run}
use Rattle.telling.specs.declared.Begun.{Begun}
use Rattle.telling.specs.declared.Told.{Told}

-- "It stops after 100,000 slots."
abbrev pub last_slot : ℕ
last_slot = 100000

-- "It starts the session program's settings"
unfoldable pub start_with : ℕ → Begun
start_with letter =
    let s = start_of unstarted blank (bench_settings letter) bench_measurement in
    record { verdict = s.verdict; run = record { port = s.port; line = s.line; slots = 0; stopped = false } }

-- 16 covers the port, the line and the slots
unfoldable pub valid_run : Run → Bool
valid_run r = (valid_port r.port && valid_line r.line) && leb r.slots last_slot

-- a line of other form has come, or the last slot has been run
abbrev pub is_over : Run → Bool
is_over r = r.stopped || leb last_slot r.slots

-- how many of n slots a run has left
unfoldable pub slots_left : Run → ℕ → ℕ
slots_left r n = cond (leb last_slot r.slots) 0 (cond (ltb n (last_slot - r.slots)) n (last_slot - r.slots))

pub record Telling : Type 0 where
  pub text : List ℕ
  pub run : Run

-- an event of a run that is not over
unfoldable pub tells : Run → Event → Telling
tells r (Received b) =
    let x = receive_of r.port r.line b in
    record { text = verdict_text x.verdict; run = record { port = x.port; line = x.line; slots = r.slots; stopped = r.stopped } }
tells r (Slots n) =
    let k = slots_left r n in
    record { text = slots_text k r.port; run = record { port = after_slots k r.port; line = r.line; slots = r.slots + k; stopped = r.stopped } }
tells r (Measured m) =
    let x = measure_of r.port m in
    record { text = verdict_text x.verdict; run = record { port = x.port; line = r.line; slots = r.slots; stopped = r.stopped } }
tells r Other = record { text = refused_text Form; run = record { port = r.port; line = r.line; slots = r.slots; stopped = true } }

-- after its end a run does nothing
unfoldable pub tell_of : Run → Event → Telling
tell_of r e = cond (is_over r) (record { text = []; run = r }) (tells r e)

-- ---- as the code answers it

-- count slots are run from a port on and printed at the start of lent memory
pub record RunsSlots (count : ℕ) (p : Port) (out : List ℕ) (r : Port) (after : List ℕ) : Type 0 where
  pub port : r ≡ after_slots count p
  pub text : after ≡ over out 0 (slots_text count p)

-- printed, the new run; for want of room the old one
abbrev pub handed : Answer ℕ → Run → Run → Told
handed (Ok n) new old = record { wrote = Ok n; run = new }
handed (Err r) new old = record { wrote = Err r; run = old }

abbrev pub told_in : Telling → Run → List ℕ → Told
told_in t r out = handed (printed_in t.text out) t.run r

abbrev pub Tells : Telling → Run → List ℕ → Told → List ℕ → Type 0
Tells t self out r after = Gives (told_in t self out) (over out 0 t.text) r after

-- 16 before all
unfoldable pub told_of : Run → Event → List ℕ → Told
told_of r e out = cond (valid_run r) (told_in (tell_of r e) r out) (record { wrote = Err State; run = r })

unfoldable pub told_leaves : Run → Event → List ℕ → List ℕ
told_leaves r e out = cond (valid_run r) (over out 0 (tell_of r e).text) out

unfoldable pub count_of : Run → List ℕ → Answer ℕ
count_of r out = cond (valid_run r) (printed_in (slots_line r.slots) out) (Err State)

unfoldable pub count_leaves : Run → List ℕ → List ℕ
count_leaves r out = cond (valid_run r) (over out 0 (slots_line r.slots)) out
