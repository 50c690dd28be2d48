-- The promises hold: an event is that of the run of its port, put back, and each call is the base's on it. Assumes nothing.
use Prim.Native.Nat.{ℕ, ◌≤◌}
use mathlib.Core.Bool.{Bool, true, false}
use mathlib.Core.List.{List, []}
use mathlib.Core.Logic.{◌↔◌}
use mathlib.Core.Path.{◌≡◌, refl, sym, ap, ap₂, ◌∙◌}
use lib.ListN.{length}
use Rattle.std.specs.Prelude.{Err, Ok}
use Rattle.laws.specs.Over.{over as written}
use Rattle.laws.proofs.Tests.{and_left, and_right, and_both, and_fails}
use Rattle.refusal.specs.Answer.{Verdict}
use Rattle.refusal.specs.declared.Refusal.{Refusal}
use Rattle.bench_lens.specs.Bench.{bench_settings, bench_measurement}
use Rattle.line.specs.declared.Line.{Line}
use Rattle.line.specs.Line.{blank, valid_line}
use Rattle.port.specs.declared.Port.{Port}
use Rattle.port.specs.declared.Started.{Started}
use Rattle.port.specs.Port.{unstarted, handed, start_verdict, started_port, started_by, start_of}
use Rattle.connectors.specs.declared.Side.{Side}
use Rattle.connectors.specs.declared.Side.TheVariants.{Camera, External}
use Rattle.connectors.specs.declared.Lines.{Lines}
use Rattle.connectors.specs.declared.StartedBoth.{StartedBoth}
use Rattle.connectors.specs.Connectors.{port_at, line_at, with_line, first_refused, both_verdict, blank_lines, unstarted_both, started_both, started_by as bothBy, start_both}
use Rattle.connectors.specs.Promises.{opposite, Became}
use Rattle.connectors.proofs.Promises as connectors
use Rattle.printed.specs.Printed.{slots_line}
use Rattle.telling.specs.Telling.{start_with, valid_run, Telling, tell_of}
use Rattle.telling.specs.declared.Run.{Run}
use Rattle.telling.specs.declared.Told.{Told}
use Rattle.telling.proofs.Laws.{ours, is_ours}
use Rattle.telling.proofs.Calls.{call_done, call_16, call_2, call_same, told_16}
use Rattle.telling.proofs.Promises as telling
use Rattle.runs.specs.Runs.{run_at, with_run, start_runs, valid_runs, are_over, tell_at, told_at, told_at_leaves, count_both, count_both_leaves}
use Rattle.runs.specs.Promises.{OfBoth, EachCall, Promised}
use Rattle.runs.specs.declared.Addressed.{Addressed}
use Rattle.runs.specs.declared.Runs.{Runs}
use Rattle.runs.proofs.Ports.{of_ports}

-- ---- a run in its place

run_there : (r : Runs) (a : Side) (q : Run) → run_at (with_run r a q) a ≡ q
run_there r Camera q = refl
run_there r External q = refl

-- the run that was there
put_back : (r : Runs) (a : Side) {q : Run} → q ≡ run_at r a → with_run r a q ≡ r
put_back r Camera e = ap (with_run r Camera) e
put_back r External e = ap (with_run r External) e

line_stays : (l : Lines) (a : Side) (x : Line) → line_at (with_line l a x) (opposite a) ≡ line_at l (opposite a)
line_stays l Camera x = refl
line_stays l External x = refl

-- ---- an event

module _ (r : Runs) (x : Addressed) where
  abbrev t : Telling
  t = tell_of (run_at r x.side) x.event

  run : run_at (tell_at r x).runs x.side ≡ t.run
  unfolding tell_at
  run = run_there r x.side t.run

  other : Became r.connectors x.side t.run.port (tell_at r x).runs.connectors
  unfolding tell_at
  other = connectors.in_place_lem r.connectors x.side t.run.port

  other_line : line_at (tell_at r x).runs.lines (opposite x.side) ≡ line_at r.lines (opposite x.side)
  unfolding tell_at
  other_line = line_stays r.lines x.side t.run.line

  over : are_over r ≡ true → tell_at r x ≡ record { text = []; runs = r }
  unfolding tell_at
  over o =
      let e = (telling.promised).of_events.over (run_at r x.side) x.event o in
      ap₂ (λ (s : List ℕ) (w : Runs). record { text = s; runs = w }) e.0 (put_back r x.side e.1)

pub of_both : OfBoth
unfolding tell_at
of_both = record {
  text = λ r x. refl;
  run = run;
  other = other;
  other_line = other_line;
  slots = λ r x. refl;
  one_end = λ r a. refl;
  ends = λ r. (telling.promised).of_events.ends (run_at r Camera);
  over = over;
}

-- ---- a start

-- by the one verdict on both
module _ (letter : ℕ) where
  abbrev judged : Verdict
  judged = start_verdict (bench_settings letter) bench_measurement

  abbrev both : Verdict → StartedBoth
  both v = bothBy (first_refused v v) (started_both (bench_settings letter) bench_measurement bench_measurement) unstarted_both blank_lines

  abbrev one : Verdict → Started
  one v = started_by v (started_port (bench_settings letter) bench_measurement) unstarted blank

  same_verdict : (v : Verdict) → (both v).verdict ≡ (one v).verdict
  unfolding handed
  same_verdict (Ok tt) = refl
  same_verdict (Err x) = refl

  same_port : (v : Verdict) (a : Side) → (port_at (both v).connectors a ≡ (one v).port) × (line_at (both v).lines a ≡ (one v).line)
  unfolding handed
  same_port (Ok tt) Camera = (refl, refl)
  same_port (Ok tt) External = (refl, refl)
  same_port (Err x) Camera = (refl, refl)
  same_port (Err x) External = (refl, refl)

  start_verdict_lem : (start_runs letter).verdict ≡ (start_with letter).verdict
  unfolding start_runs start_both both_verdict start_with start_of
  start_verdict_lem = same_verdict judged

  start_run : (a : Side) → run_at (start_runs letter).runs a ≡ (start_with letter).run
  unfolding start_runs start_both both_verdict start_with start_of
  start_run a =
      let e = same_port judged a in
      ap₂ (λ (p : Port) (l : Line). record { port = p; line = l; slots = 0; stopped = false }) e.0 e.1

  -- what the base says of its start holds of each run
  start_at : (b : Bool) → valid_run (start_with letter).run ≡ b → (a : Side) → valid_run (run_at (start_runs letter).runs a) ≡ b
  start_at b e a = ap valid_run (start_run a) ∙ e

-- ---- runs of ours

both_valid : (r : Runs) → (valid_runs r ≡ true) ↔ ((a : Side) → valid_run (run_at r a) ≡ true)
unfolding valid_runs
both_valid r = (sides, λ h. and_both (h Camera) (h External))
  where
    sides : valid_runs r ≡ true → (a : Side) → valid_run (run_at r a) ≡ true
    sides v Camera = and_left (valid_run (run_at r Camera)) _ v
    sides v External = and_right (valid_run (run_at r Camera)) _ v

lines_valid : (l : Lines) (a : Side) (x : Line) → valid_line x ≡ true → ((c : Side) → valid_line (line_at l c) ≡ true) → (c : Side) →
    valid_line (line_at (with_line l a x) c) ≡ true
lines_valid l Camera x v w Camera = v
lines_valid l Camera x v w External = w External
lines_valid l External x v w Camera = w Camera
lines_valid l External x v w External = v

-- a run of ours put in the place of one
put_valid : (r : Runs) (a : Side) (q : Run) → valid_run q ≡ true → ((c : Side) → valid_run (run_at r c) ≡ true) → (c : Side) →
    valid_run (run_at (with_run r a q) c) ≡ true
put_valid r a q v w c =
    let o = ours q v in
    is_ours (run_at (with_run r a q) c)
    (record {
      port = connectors.both_valid r.connectors a q.port o.port (λ d. (ours (run_at r d) (w d)).port) c;
      line = lines_valid r.lines a q.line o.line (λ d. (ours (run_at r d) (w d)).line) c;
      slots = o.slots;
    })

tell_valid : (r : Runs) (x : Addressed) → valid_runs r ≡ true → valid_runs (tell_at r x).runs ≡ true
unfolding tell_at
tell_valid r x v =
    let w = (both_valid r).0 v in
    (both_valid (tell_at r x).runs).1 (put_valid r x.side _ ((telling.each_call).tell_valid (run_at r x.side) x.event (w x.side)) w)

-- ---- a call

none_valid : (r : Runs) → valid_run (run_at r Camera) ≡ false → valid_runs r ≡ false
unfolding valid_runs
none_valid r e = sym (and_fails _ e)

tell_done : (r : Runs) (x : Addressed) (out : List ℕ) → valid_run (run_at r x.side) ≡ true → length (tell_at r x).text ≤ length out →
    (told_at r x out ≡ record { wrote = Ok (length (tell_at r x).text); runs = (tell_at r x).runs }) × (told_at_leaves r x out ≡ written out 0 (tell_at r x).text)
unfolding tell_at told_at
tell_done r x out v h =
    let e = (telling.each_call).tell_done (run_at r x.side) x.event out v h in
    (ap (λ (t : Told). record { wrote = t.wrote; runs = with_run r x.side t.run }) e.0, e.1)

tell_same : (r : Runs) (x : Addressed) (out : List ℕ) (y : Refusal) → (told_at r x out).wrote ≡ Err y →
    ((told_at r x out).runs ≡ r) × (told_at_leaves r x out ≡ out)
unfolding told_at
tell_same r x out y h =
    let e = (telling.each_call).tell_same (run_at r x.side) x.event out y h in
    (put_back r x.side e.0, e.1)

pub each_call : EachCall
unfolding tell_at told_at count_both count_both_leaves
each_call = record {
  start_verdict_lem = start_verdict_lem;
  start_run = start_run;
  start_valid = λ letter d.
      (both_valid (start_runs letter).runs).1 (start_at letter true ((telling.each_call).start_valid letter (sym (start_verdict_lem letter) ∙ d)));
  start_none = λ letter x d.
      none_valid (start_runs letter).runs (start_at letter false ((telling.each_call).start_none letter x (sym (start_verdict_lem letter) ∙ d)) Camera);
  both_valid = both_valid;
  tell_16 = λ r x out. told_16 (run_at r x.side) x.event out;
  tell_2 = λ r x out n. (telling.each_call).tell_2 (run_at r x.side) x.event out n;
  tell_same = tell_same;
  count_same = λ r out y h. call_same (valid_runs r) (slots_line r.slots) out y h;
  tell_done = tell_done;
  count_16 = λ r out. call_16 (valid_runs r) (slots_line r.slots) out;
  count_2 = λ r out n. call_2 (valid_runs r) (slots_line r.slots) out n;
  count_done = λ r out v h. call_done (valid_runs r) (slots_line r.slots) out v h;
  tell_valid = tell_valid;
  longest = λ r x h. (telling.each_call).longest (run_at r x.side) x.event h;
}

pub promised : Promised
promised = record { of_ports = of_ports; of_both = of_both; each_call = each_call }
