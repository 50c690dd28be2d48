-- What a replay promises, put together. Assumes nothing.
use Prim.Native.Nat.{ℕ, ◌+◌, ◌≤◌}
use mathlib.Core.Bool.{true, false}
use mathlib.Core.List.{List}
use mathlib.Core.Path.{◌≡◌, refl, sym, ap, subst, ◌∙◌}
use lib.ListN.{replicate}
use Rattle.std.specs.Prelude.{Ok}
use Rattle.laws.proofs.Tests.{cond_no}
use Rattle.machine.specs.Machine.{sent, start}
use Rattle.machine.specs.Promised.{Promised}
use Rattle.bench_lens.specs.Bench.{bench_settings, bench_measurement}
use Rattle.line.specs.Line.{blank}
use Rattle.state.specs.declared.Source.{Source}
use Rattle.rules.specs.Lens.{lens}
use Rattle.rules.specs.Promise.{act_by, reply_by, record_by}
use Rattle.port.specs.declared.Port.{Port}
use Rattle.port.specs.Port.{unstarted, started_port}
use Rattle.port.proofs.Promises.{leaves_new}
use Rattle.walk.specs.Calls.{slots_once, after_all, events_all}
use Rattle.walk.proofs.Calls.{of_the_port}
use Rattle.connectors.specs.declared.Side.TheVariants.{Camera}
use Rattle.capture.specs.declared.Event.{Event}
use Rattle.capture.specs.declared.Event.TheVariants.{Received, Slots, Measured}
use Rattle.telling.specs.Telling.{start_with, is_over, tell_of}
use Rattle.telling.specs.declared.Run.{Run}
use Rattle.telling.proofs.Events.{fits_left}
use Rattle.runs.specs.Runs.{start_runs}
use Rattle.runs.proofs.Promises.{each_call}
use Rattle.follow.specs.Replay.{lines, tell_all, replay_with}
use Rattle.follow.specs.Both.{tell_both, replay_both}
use Rattle.follow.specs.Calls.{Replays, held_by, calls_by, calls_of, calls_in, shown}
use Rattle.follow.specs.Promises.{WholeText, OfTheCalls, Entries}
use Rattle.follow.specs.Ports.{WithPorts}
use Rattle.follow.proofs.Calls.{event_state, from_start, states, number, by_calls}
use Rattle.follow.proofs.Both as both
use Rattle.follow.proofs.Ends.{at_most, other, other_slots, over}
use Rattle.follow.proofs.Shown.{bytes}
use Rattle.follow.proofs.Whole.{replays}
use Rattle.follow.proofs.Always.{always}
use Rattle.follow.proofs.Examples.{empty, four, greetings}

-- ---- a start is one of the port's

module _ (letter : ℕ) (e : (start_with letter).verdict ≡ Ok tt) where
  source_is : (start_with letter).run.port.source ≡ (started_port (bench_settings letter) bench_measurement).source
  unfolding start_with
  source_is = ap (λ (p : Port). p.source) (leaves_new unstarted blank (bench_settings letter) bench_measurement e).0

  sends : (input : List ℕ) →
      let r = (start_with letter).run in
      shown (lines (replay_with r input)) ≡ sent (start lens r.port.source) (events_all (held_by r) (calls_in r (lines input)))
  unfolding start_with
  sends input =
      let r = (start_with letter).run in
      let cs = calls_in r (lines input) in
      bytes r input
      ∙ of_the_port.sends unstarted blank (bench_settings letter) bench_measurement cs e
      ∙ sym (ap (λ (s : Source). sent (start lens s) (events_all (held_by r) cs)) source_is)

  demand3 : Promised lens act_by reply_by record_by (start_with letter).run.port.source
  unfolding start_with
  demand3 = subst (Promised lens act_by reply_by record_by) (sym source_is) (of_the_port.demand3 unstarted blank (bench_settings letter) bench_measurement e)

on_event : (r : Run) (e : Event) → is_over r ≡ false → held_by (tell_of r e).run ≡ after_all (held_by r) (calls_by r e)
unfolding calls_of
on_event r e o = event_state r e ∙ ap (after_all (held_by r)) (cond_no _ _ o)

on_slots : (r : Run) (n : ℕ) → is_over r ≡ false → r.slots + n ≤ 100000 → held_by (tell_of r (Slots n)).run ≡ after_all (held_by r) (replicate n slots_once)
on_slots r n o h = on_event r (Slots n) o ∙ ap (λ (k : ℕ). after_all (held_by r) (replicate k slots_once)) (fits_left r n o h)

pub of_the_calls : OfTheCalls
unfolding after_all
of_the_calls = record {
  from_start = from_start;
  on_received = λ r b o. on_event r (Received b) o;
  on_measured = λ r m o. on_event r (Measured m) o;
  on_slots = on_slots;
  states = states;
  number = number;
  by_calls = by_calls;
  bytes = λ letter input e. bytes (start_with letter).run input;
  sends = λ letter input e. sends letter e input;
  demand3 = demand3;
  at_most = at_most;
  other = other;
  other_slots = other_slots;
  over = over;
}

-- ---- the whole text of the camera side's run

one_text : (letter : ℕ) (input : List ℕ) → replay_both false (start_runs letter).runs input ≡ replay_with (start_with letter).run input
one_text letter input = both.without (start_runs letter).runs input ∙ ap (λ (r : Run). replay_with r input) (each_call.start_run letter Camera)

one_replays : (letter : ℕ) (input text : List ℕ) → Replays letter false input text → text ≡ replay_with (start_with letter).run input
one_replays letter input text p = replays letter false input text p ∙ one_text letter input

one_always : (letter : ℕ) (input : List ℕ) → (start_with letter).verdict ≡ Ok tt → Replays letter false input (replay_with (start_with letter).run input)
one_always letter input d = subst (Replays letter false input) (one_text letter input) (always letter false input (each_call.start_verdict_lem letter ∙ d))

pub whole_text : WholeText
unfolding tell_all replay_with
whole_text = record {
  replays = one_replays;
  always = one_always;
  no_line = λ r. refl;
  line = λ r l ls. refl;
  last_line = λ r input. refl;
  letter = λ input. refl;
  four = four;
  empty = empty;
}

pub entries : Entries
entries = record {
  start = λ letter ports r h. h;
  take = λ f piece out r after h. (h.answers, h.leaves);
  close = λ f out r after h. (h.answers, h.leaves);
  count = λ r out w after h. (h.answers, h.leaves);
  is_over_lem = λ r b h. h;
}

-- ---- with port numbers

pub with_ports : WithPorts
unfolding tell_both replay_both
with_ports = record {
  replays = replays;
  always = always;
  no_line = λ ports r. refl;
  line = λ ports r l ls. refl;
  last_line = λ ports r input. refl;
  without = both.without;
  unnumbered = both.unnumbered;
  same_text = λ letter input text h p. replays letter true input text p ∙ both.unnumbered (start_runs letter).runs input h ∙ one_text letter input;
  at_most = both.at_most;
  other = both.other;
  other_slots = both.other_slots;
  over = both.over;
  greetings = greetings;
}
