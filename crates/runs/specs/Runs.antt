-- The run of a capture on both connectors: which port a line names, and what an event makes of the run of that port.
use Rattle.std.specs.Prelude.{ℕ, Bool, false, cond, ◌&&◌, List, [], ◌∷◌, eqb, drop, Err}
use Rattle.laws.specs.Over.{over}
use Rattle.refusal.specs.Answer.{Answer}
use Rattle.refusal.specs.declared.Refusal.TheVariants.{State}
use Rattle.bench_lens.specs.Bench.{bench_settings, bench_measurement}
use Rattle.connectors.specs.declared.Side.{Side}
use Rattle.connectors.specs.declared.Side.TheVariants.{Camera, External}
use Rattle.connectors.specs.Connectors.{port_at, with_port, line_at, with_line, blank_lines, unstarted_both, start_both}
use Rattle.capture.specs.Words.{space}
use Rattle.capture.specs.Capture.{event_of}
use Rattle.printed.specs.Printed.{slots_line, printed_in}
use Rattle.telling.specs.Telling.{valid_run, is_over, tell_of, told_of, told_leaves}
use Rattle.telling.specs.declared.Run.{Run}
use Rattle.runs.specs.declared.Addressed.{Addressed}
use Rattle.runs.specs.declared.Runs.{Runs}
use Rattle.runs.specs.declared.BegunBoth.{BegunBoth}
use Rattle.runs.specs.declared.ToldAt.{ToldAt}

-- ---- the port of a line

-- this number and a space stand before the rest
unfoldable pub is_numbered : ℕ → List ℕ → Bool
is_numbered n [] = false
is_numbered n (b ∷ []) = false
is_numbered n (b ∷ c ∷ s) = eqb b n && eqb c space

abbrev pub event_on : Side → List ℕ → Addressed
event_on a s = record { side = a; event = event_of s }

-- "With the argument `ports` a port number and a space may stand before an event" (0 is 48, 1 is 49); "a line without it is port 0"
unfoldable pub event_at : Bool → List ℕ → Addressed
event_at ports s =
    cond (ports && is_numbered 48 s) (event_on Camera (drop 2 s))
    (cond (ports && is_numbered 49 s) (event_on External (drop 2 s)) (event_on Camera s))

-- ---- the run of a port

-- its port over the shared settings, its line, and "`slots` counts both ports' slots"
abbrev pub run_at : Runs → Side → Run
run_at r a = record { port = port_at r.connectors a; line = line_at r.lines a; slots = r.slots; stopped = r.stopped }

abbrev pub with_run : Runs → Side → Run → Runs
with_run r a q = record {
  connectors = with_port r.connectors a q.port;
  lines = with_line r.lines a q.line;
  slots = q.slots;
  stopped = q.stopped;
}

-- the session program's settings, and its measurement on both ports
unfoldable pub start_runs : ℕ → BegunBoth
start_runs letter =
    let s = start_both unstarted_both blank_lines (bench_settings letter) bench_measurement bench_measurement in
    record { verdict = s.verdict; runs = record { connectors = s.connectors; lines = s.lines; slots = 0; stopped = false } }

-- 16 covers the run of each port
unfoldable pub valid_runs : Runs → Bool
valid_runs r = valid_run (run_at r Camera) && valid_run (run_at r External)

-- both end together
abbrev pub are_over : Runs → Bool
are_over r = is_over (run_at r Camera)

-- ---- an event

pub record TellingAt : Type 0 where
  pub text : List ℕ
  pub runs : Runs

-- what the run of its port makes of it
unfoldable pub tell_at : Runs → Addressed → TellingAt
tell_at r x =
    let t = tell_of (run_at r x.side) x.event in
    record { text = t.text; runs = with_run r x.side t.run }

-- as the code answers it
unfoldable pub told_at : Runs → Addressed → List ℕ → ToldAt
told_at r x out =
    let t = told_of (run_at r x.side) x.event out in
    record { wrote = t.wrote; runs = with_run r x.side t.run }

abbrev pub told_at_leaves : Runs → Addressed → List ℕ → List ℕ
told_at_leaves r x out = told_leaves (run_at r x.side) x.event out

unfoldable pub count_both : Runs → List ℕ → Answer ℕ
count_both r out = cond (valid_runs r) (printed_in (slots_line r.slots) out) (Err State)

unfoldable pub count_both_leaves : Runs → List ℕ → List ℕ
count_both_leaves r out = cond (valid_runs r) (over out 0 (slots_line r.slots)) out
