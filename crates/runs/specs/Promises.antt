-- Which port a line names, and what an event makes of the runs of both ports, beside its exact answer: statements only.
use Rattle.std.specs.Prelude.{ℕ, ◌≤◌, ◌<◌, true, false, List, [], ◌∷◌, ◌↔◌, ◌⊎◌, ◌≢◌, ◌≡◌, length, Err, Ok}
use Rattle.laws.specs.Over.{over}
use Rattle.refusal.specs.declared.Refusal.{Refusal}
use Rattle.refusal.specs.declared.Refusal.TheVariants as refusal
use Rattle.connectors.specs.declared.Side.{Side}
use Rattle.connectors.specs.declared.Side.TheVariants.{Camera, External}
use Rattle.connectors.specs.Connectors.{line_at}
use Rattle.connectors.specs.Promises.{opposite, Became}
use Rattle.capture.specs.Capture.{event_of}
use Rattle.capture.specs.declared.Event.{Event}
use Rattle.capture.specs.declared.Event.TheVariants.{Slots, Other}
use Rattle.printed.specs.Printed.{slots_line}
use Rattle.telling.specs.Telling.{start_with, valid_run, is_over, tell_of}
use Rattle.runs.specs.Runs.{event_at, run_at, start_runs, valid_runs, are_over, tell_at, told_at, told_at_leaves, count_both, count_both_leaves}
use Rattle.runs.specs.declared.Addressed.{Addressed}
use Rattle.runs.specs.declared.Runs.{Runs}

-- ---- the port of a line

-- the number of a port, as a byte: 0, 1
abbrev pub digit_of : Side → ℕ
digit_of Camera = 48
digit_of External = 49

-- no port number and space stand before it
abbrev pub Unnumbered : List ℕ → Type 0
Unnumbered s = (a : Side) (t : List ℕ) → s ≢ digit_of a ∷ 32 ∷ t

-- no event begins so: with another byte than R, S and M
abbrev pub NoEvent : ℕ → Type 0
NoEvent b = (b ≢ 82) × (b ≢ 83) × (b ≢ 77)

pub record OfPorts : Type 0 where
  -- without `ports` every line is its event on the camera side, and one with a port number is of other form
  pub without : (s : List ℕ) → event_at false s ≡ record { side = Camera; event = event_of s }
  pub without_number : (a : Side) (s : List ℕ) → (event_at false (digit_of a ∷ s)).event ≡ Other
  -- "With the argument `ports` a port number and a space may stand before an event"
  pub named : (a : Side) (s : List ℕ) → event_at true (digit_of a ∷ 32 ∷ s) ≡ record { side = a; event = event_of s }
  -- "a line without it is port 0"
  pub unnamed : (s : List ℕ) → Unnumbered s → event_at true s ≡ record { side = Camera; event = event_of s }
  -- and no other line is an event
  pub exactly : (s : List ℕ) (a : Side) (e : Event) → e ≢ Other →
      (event_at true s ≡ record { side = a; event = e }) ↔
      (((t : List ℕ) × (s ≡ digit_of a ∷ 32 ∷ t) × (event_of t ≡ e)) ⊎ ((a ≡ Camera) × (event_of s ≡ e)))
  -- "another number there is of other form", as is another byte: `2 R 41`, ` R 41`
  pub another : (b : ℕ) (s : List ℕ) → NoEvent b → ((a : Side) → b ≢ digit_of a) → (event_at true (b ∷ s)).event ≡ Other
  -- a number of two digits, or with no space behind it: `00 R 41`, `0R 41`
  pub longer : (a : Side) (b : ℕ) (s : List ℕ) → b ≢ 32 → (event_at true (digit_of a ∷ b ∷ s)).event ≡ Other
  -- two numbers, or two spaces: `0 0 R 41`, `0  R 41`
  pub twice : (a : Side) (b : ℕ) (s : List ℕ) → NoEvent b → (event_at true (digit_of a ∷ 32 ∷ b ∷ s)).event ≡ Other
  -- a number alone, with its space or without
  pub alone : (a : Side) → (event_at true (digit_of a ∷ [])).event ≡ Other
  pub with_space : (a : Side) → (event_at true (digit_of a ∷ 32 ∷ [])).event ≡ Other

-- ---- an event

pub record OfBoth : Type 0 where
  -- it prints what the base's run of its port prints, and leaves that run there
  pub text : (r : Runs) (x : Addressed) → (tell_at r x).text ≡ (tell_of (run_at r x.side) x.event).text
  pub run : (r : Runs) (x : Addressed) → run_at (tell_at r x).runs x.side ≡ (tell_of (run_at r x.side) x.event).run
  -- "Each port has its own line, waiting place, modes, unit, film, measurement, rate": what the other port has of its own stays, and its line
  pub other : (r : Runs) (x : Addressed) →
      Became r.connectors x.side (tell_of (run_at r x.side) x.event).run.port (tell_at r x).runs.connectors
  pub other_line : (r : Runs) (x : Addressed) → line_at (tell_at r x).runs.lines (opposite x.side) ≡ line_at r.lines (opposite x.side)
  -- "`slots` counts both ports' slots": one count, and one end
  pub slots : (r : Runs) (x : Addressed) → (tell_at r x).runs.slots ≡ (tell_of (run_at r x.side) x.event).run.slots
  pub one_end : (r : Runs) (a : Side) → is_over (run_at r a) ≡ are_over r
  pub ends : (r : Runs) → (are_over r ≡ true) ↔ ((r.stopped ≡ true) ⊎ (100000 ≤ r.slots))
  -- after it an event does nothing
  pub over : (r : Runs) (x : Addressed) → are_over r ≡ true → tell_at r x ≡ record { text = []; runs = r }

-- ---- a call

pub record EachCall : Type 0 where
  -- both ports start with the session program's settings and measurement: each is the base's start
  pub start_verdict_lem : (letter : ℕ) → (start_runs letter).verdict ≡ (start_with letter).verdict
  pub start_run : (letter : ℕ) (a : Side) → run_at (start_runs letter).runs a ≡ (start_with letter).run
  pub start_valid : (letter : ℕ) → (start_runs letter).verdict ≡ Ok tt → valid_runs (start_runs letter).runs ≡ true
  pub start_none : (letter : ℕ) (x : Refusal) → (start_runs letter).verdict ≡ Err x → valid_runs (start_runs letter).runs ≡ false
  -- runs are ours where both are
  pub both_valid : (r : Runs) → (valid_runs r ≡ true) ↔ ((a : Side) → valid_run (run_at r a) ≡ true)
  -- "16 judges the shared settings and the named port": of an event, exactly where the run of its port is none of ours
  pub tell_16 : (r : Runs) (x : Addressed) (out : List ℕ) → ((told_at r x out).wrote ≡ Err refusal.State) ↔ (valid_run (run_at r x.side) ≡ false)
  -- then 2, exactly where the text is longer than the lent memory, with its length
  pub tell_2 : (r : Runs) (x : Addressed) (out : List ℕ) (n : ℕ) →
      ((told_at r x out).wrote ≡ Err (refusal.Room n)) ↔
      ((valid_run (run_at r x.side) ≡ true) × (length out < length (tell_at r x).text) × (n ≡ length (tell_at r x).text))
  -- a refusal changes nothing, of either port
  pub tell_same : (r : Runs) (x : Addressed) (out : List ℕ) (y : Refusal) → (told_at r x out).wrote ≡ Err y →
      ((told_at r x out).runs ≡ r) × (told_at_leaves r x out ≡ out)
  pub count_same : (r : Runs) (out : List ℕ) (y : Refusal) → count_both r out ≡ Err y → count_both_leaves r out ≡ out
  -- where no case holds, the text is printed
  pub tell_done : (r : Runs) (x : Addressed) (out : List ℕ) → valid_run (run_at r x.side) ≡ true → length (tell_at r x).text ≤ length out →
      (told_at r x out ≡ record { wrote = Ok (length (tell_at r x).text); runs = (tell_at r x).runs }) ×
      (told_at_leaves r x out ≡ over out 0 (tell_at r x).text)
  pub count_16 : (r : Runs) (out : List ℕ) → (count_both r out ≡ Err refusal.State) ↔ (valid_runs r ≡ false)
  pub count_2 : (r : Runs) (out : List ℕ) (n : ℕ) →
      (count_both r out ≡ Err (refusal.Room n)) ↔ ((valid_runs r ≡ true) × (length out < length (slots_line r.slots)) × (n ≡ length (slots_line r.slots)))
  pub count_done : (r : Runs) (out : List ℕ) → valid_runs r ≡ true → length (slots_line r.slots) ≤ length out →
      (count_both r out ≡ Ok (length (slots_line r.slots))) × (count_both_leaves r out ≡ over out 0 (slots_line r.slots))
  -- runs of ours stay so, that of the other port too
  pub tell_valid : (r : Runs) (x : Addressed) → valid_runs r ≡ true → valid_runs (tell_at r x).runs ≡ true
  -- no event prints more than 999 slots do
  pub longest : (r : Runs) (x : Addressed) → ((n : ℕ) → x.event ≡ Slots n → n ≤ 999) → length (tell_at r x).text ≤ 2997

pub record Promised : Type 0 where
  pub of_ports : OfPorts
  pub of_both : OfBoth
  pub each_call : EachCall
