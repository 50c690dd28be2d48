-- What an event prints and leaves, beside its exact answer: statements only.
use Rattle.std.specs.Prelude.{ℕ, ◌+◌, ◌≤◌, ◌<◌, true, false, List, [], ◌↔◌, ◌⊎◌, ◌≢◌, ◌≡◌, length, Err, Ok}
use Rattle.refusal.specs.Refusal.{number_of}
use Rattle.refusal.specs.declared.Refusal.{Refusal}
use Rattle.refusal.specs.declared.Refusal.TheVariants as refusal
use Rattle.units.specs.declared.Measurement.{Measurement}
use Rattle.laws.specs.Over.{over}
use Rattle.bench_lens.specs.Bench.{bench_settings, bench_measurement}
use Rattle.line.specs.Line.{blank, valid_line}
use Rattle.port.specs.Port.{valid_port, receive_of, measure_of, started_port}
use Rattle.capture.specs.declared.Event.{Event}
use Rattle.capture.specs.declared.Event.TheVariants.{Received, Slots, Measured, Other}
use Rattle.printed.specs.Printed.{slots_text, refused_text, slots_line}
use Rattle.telling.specs.Telling.{start_with, valid_run, is_over, tell_of, told_of, told_leaves, count_of, count_leaves}
use Rattle.telling.specs.declared.Run.{Run}

-- ---- an event

pub record OfEvents : Type 0 where
  -- a received byte that is done prints nothing
  pub received : (r : Run) (b : ℕ) → is_over r ≡ false → (receive_of r.port r.line b).verdict ≡ Ok tt → (tell_of r (Received b)).text ≡ []
  -- "A refused or dropped event prints `refused` and its number", and changes nothing but the line that was dropped
  pub dropped : (r : Run) (b : ℕ) (x : Refusal) → is_over r ≡ false → valid_run r ≡ true → (receive_of r.port r.line b).verdict ≡ Err x →
      (x ≡ refusal.Dropped) ×
      ((tell_of r (Received b)).text ≡ refused_text refusal.Dropped) ×
      ((tell_of r (Received b)).run ≡ record { port = r.port; line = blank; slots = r.slots; stopped = r.stopped })
  pub measured : (r : Run) (m : Measurement) → is_over r ≡ false → (measure_of r.port m).verdict ≡ Ok tt → (tell_of r (Measured m)).text ≡ []
  pub refused : (r : Run) (m : Measurement) (x : Refusal) → is_over r ≡ false → valid_run r ≡ true → (measure_of r.port m).verdict ≡ Err x →
      (number_of x ≡ 1) × ((tell_of r (Measured m)).text ≡ refused_text x) × ((tell_of r (Measured m)).run ≡ r)
  -- a run is over by a line of other form or by its last slot, and by nothing else
  pub ends : (r : Run) → (is_over r ≡ true) ↔ ((r.stopped ≡ true) ⊎ (100000 ≤ r.slots))
  -- 10 ends the run, and no other event but the last slot does
  pub other : (r : Run) → is_over r ≡ false →
      ((tell_of r Other).text ≡ refused_text refusal.Form) ×
      ((tell_of r Other).run ≡ record { port = r.port; line = r.line; slots = r.slots; stopped = true })
  pub goes_on : (r : Run) (e : Event) → e ≢ Other → (tell_of r e).run.stopped ≡ r.stopped
  pub received_slots : (r : Run) (b : ℕ) → (tell_of r (Received b)).run.slots ≡ r.slots
  pub measured_slots : (r : Run) (m : Measurement) → (tell_of r (Measured m)).run.slots ≡ r.slots
  -- n slots are run, or as many as are left to 100,000, and printed
  pub slots : (r : Run) (n : ℕ) → is_over r ≡ false → r.slots + n ≤ 100000 →
      ((tell_of r (Slots n)).run.slots ≡ r.slots + n) × ((tell_of r (Slots n)).text ≡ slots_text n r.port)
  pub last_slot_lem : (r : Run) (n k : ℕ) → is_over r ≡ false → r.slots + k ≡ 100000 → k ≤ n →
      ((tell_of r (Slots n)).run.slots ≡ 100000) × ((tell_of r (Slots n)).text ≡ slots_text k r.port) × (is_over (tell_of r (Slots n)).run ≡ true)
  -- after its end a run does nothing
  pub over : (r : Run) (e : Event) → is_over r ≡ true → ((tell_of r e).text ≡ []) × ((tell_of r e).run ≡ r)

-- ---- a call

pub record EachCall : Type 0 where
  -- a start is accepted exactly for the letters I, M, B and b, and is then a run of ours
  pub start_done : (letter : ℕ) → ((start_with letter).verdict ≡ Ok tt) ↔ ((letter ≡ 73) ⊎ (letter ≡ 77) ⊎ (letter ≡ 66) ⊎ (letter ≡ 98))
  pub start_valid : (letter : ℕ) → (start_with letter).verdict ≡ Ok tt → valid_run (start_with letter).run ≡ true
  -- and it is the session program's
  pub start_is : (letter : ℕ) → (start_with letter).verdict ≡ Ok tt →
      (start_with letter).run ≡ record { port = started_port (bench_settings letter) bench_measurement; line = blank; slots = 0; stopped = false }
  -- a refused start leaves a run that is none
  pub start_none : (letter : ℕ) (x : Refusal) → (start_with letter).verdict ≡ Err x → valid_run (start_with letter).run ≡ false
  -- 16 exactly for a port, a line or a count of slots that is none of ours
  pub tell_16 : (r : Run) (e : Event) (out : List ℕ) →
      ((told_of r e out).wrote ≡ Err refusal.State) ↔
      ((valid_port r.port ≡ false) ⊎ (valid_line r.line ≡ false) ⊎ (100000 < r.slots))
  -- then 2, exactly where the text is longer than the lent memory, with its length
  pub tell_2 : (r : Run) (e : Event) (out : List ℕ) (n : ℕ) →
      ((told_of r e out).wrote ≡ Err (refusal.Room n)) ↔ ((valid_run r ≡ true) × (length out < length (tell_of r e).text) × (n ≡ length (tell_of r e).text))
  -- a refusal changes nothing
  pub tell_same : (r : Run) (e : Event) (out : List ℕ) (x : Refusal) → (told_of r e out).wrote ≡ Err x → ((told_of r e out).run ≡ r) × (told_leaves r e out ≡ out)
  pub count_same : (r : Run) (out : List ℕ) (x : Refusal) → count_of r out ≡ Err x → count_leaves r out ≡ out
  -- where no case holds, the text is printed
  pub tell_done : (r : Run) (e : Event) (out : List ℕ) → valid_run r ≡ true → length (tell_of r e).text ≤ length out →
      (told_of r e out ≡ record { wrote = Ok (length (tell_of r e).text); run = (tell_of r e).run }) × (told_leaves r e out ≡ over out 0 (tell_of r e).text)
  pub count_16 : (r : Run) (out : List ℕ) → (count_of r out ≡ Err refusal.State) ↔ (valid_run r ≡ false)
  pub count_2 : (r : Run) (out : List ℕ) (n : ℕ) →
      (count_of r out ≡ Err (refusal.Room n)) ↔ ((valid_run r ≡ true) × (length out < length (slots_line r.slots)) × (n ≡ length (slots_line r.slots)))
  pub count_done : (r : Run) (out : List ℕ) → valid_run r ≡ true → length (slots_line r.slots) ≤ length out →
      (count_of r out ≡ Ok (length (slots_line r.slots))) × (count_leaves r out ≡ over out 0 (slots_line r.slots))
  -- a run of ours stays one
  pub tell_valid : (r : Run) (e : Event) → valid_run r ≡ true → valid_run (tell_of r e).run ≡ true
  -- no event prints more than 999 slots do
  pub longest : (r : Run) (e : Event) → ((n : ℕ) → e ≡ Slots n → n ≤ 999) → length (tell_of r e).text ≤ 2997

pub record Promised : Type 0 where
  pub of_events : OfEvents
  pub each_call : EachCall
