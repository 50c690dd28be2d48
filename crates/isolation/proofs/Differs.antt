-- The two runs, of which the checker runs the machine. Assumes nothing.
use Prim.Native.Nat.{ℕ}
use mathlib.Core.Bool.{Bool, false, true≢false, cond}
use mathlib.Core.List.{List, [], ◌∷◌, ◌++◌, append-nil, append_assoc}
use mathlib.Core.Logic.{◌≢◌}
use mathlib.Core.Option.{none, some}
use mathlib.Core.Path.{◌≡◌, refl, sym, ap, ap₂, subst, ◌∙◌}
use native.Mathlib.Omega.{arith}
use lib.ListN.{get_or, replicate}
use Rattle.std.specs.Prelude.{None, Ok, Option, Some}
use Rattle.laws.specs.Every.{every}
use Rattle.laws.specs.Member.{◌∈◌}
use Rattle.laws.proofs.MemberLaws.{the_only}
use Rattle.laws.proofs.Tests.{told, never}
use Rattle.machine.specs.Machine.{State, modes, Events, received, slot, given, start, run, sent, acted, on_slot, begin, rules, rule2, answer, rule3, on_byte, on_return, on_other, on_given}
use Rattle.digits.specs.Digits.{digits}
use Rattle.codec.specs.Codec.{failing, first, text_ok}
use Rattle.frame.specs.Frame.{xor_from, sum_of, ending}
use Rattle.stop.specs.Stop.{stop_ok}
use Rattle.record.specs.Record.{front_lowest, middle_lowest, back_lowest, figures_lowest}
use Rattle.fixed.specs.Fixed.{kind_ok, letter_ok, lens_lowest, fixed_lowest, settings_lowest}
use Rattle.fixed.specs.Form.{serial, owner, lens_items, version, fixed_form}
use Rattle.units.specs.Units.{by_unit}
use Rattle.units.specs.Measurement.{measurement_lowest, measurement_verdict}
use Rattle.fixed.specs.declared.Settings.{Settings}
use Rattle.bench_lens.specs.Bench.{bench_settings, bench_measurement}
use Rattle.line.specs.declared.Line.{Line}
use Rattle.line.specs.declared.Command.TheVariants.{N, X, Y}
use Rattle.line.specs.Line.{CR, blank, zeros, ends, joined}
use Rattle.line.specs.Command.{one_byte, command_in, command_of}
use Rattle.state.specs.declared.Source.{Source}
use Rattle.state.specs.declared.State.{State as RunState}
use Rattle.state.specs.declared.State.TheVariants.{Running}
use Rattle.rules.specs.Does.{relettered, replies, silent, runs, is_n, readies, does_in, does, counts_in, counts, is_on}
use Rattle.rules.specs.Lens.{by_y, elsewhere, lens}
use Rattle.port.specs.Port.{unit_of, started_port}
use Rattle.walk.specs.View.{view}
use Rattle.walk.specs.Calls.{Held, view_of, events_all}
use Rattle.walk.specs.Calls as one
use Rattle.walk.specs.InCalls.{acted_by, acted_all}
use Rattle.walk.proofs.Answers as port-answers
use Rattle.connectors.specs.declared.Side.{Side}
use Rattle.connectors.specs.declared.Side.TheVariants.{Camera, External}
use Rattle.connectors.specs.Connectors.{side_of, start_both}
use Rattle.connectors.proofs.Promises.{promised}
use Rattle.isolation.specs.Turns.{turn_of, turns_in}
use Rattle.isolation.specs.Calls.{Both, held_at, is_at, Asked, slots_once, Call, restart, on, after, after_all, own_calls, bytes_at, acted_at, seen_in, seen_by, seen_at, turn_on, turn_by, turn_calls}
use Rattle.isolation.specs.EachPort.{Unrestarted, FromRestart}
use Rattle.isolation.specs.Isolated.{NoTurn}
use Rattle.isolation.specs.Differs.{own, woken, saying, Differs}
use Rattle.isolation.specs.Differs as of_two
use Rattle.isolation.proofs.EachPort.{each_port, from_start}
use Rattle.isolation.proofs.TwoRuns.{turn_at, Allowed}
use Rattle.isolation.proofs.Same.{Still, still}

-- ---- the machine runs

abbrev source : Source
source = (started_port (bench_settings 0x42) bench_measurement).source

-- the camera's events, and the external port's up to the carriage return of Y
abbrev camera : Events lens
camera =
    received 0x4E ∷ received CR ∷ (replicate 70 slot ++ received 0x47 ∷ received CR ∷ (replicate 5 slot ++ received 0x4E ∷ received CR ∷ replicate 69 slot))

abbrev external : Events lens
external = received 0x4E ∷ received CR ∷ (replicate 70 slot ++ received 0x59 ∷ received CR ∷ [])

record Runs : Type 0 where
  with_b : sent (start lens source) camera ≡ saying 0x42
  with_turn : sent (start lens source) (given (elsewhere by_y) ∷ camera) ≡ saying 0x62
  acts : acted (start lens source) external ≡ joined blank 0x4E ∷ []
  acts_last : acted (run (start lens source) external) (slot ∷ []) ≡ joined blank 0x59 ∷ []
  running : (modes (run (start lens source) external)).modes.state ≡ Running
  is_n_lem : command_of (joined blank 0x4E) ≡ N
  is_y : command_of (joined blank 0x59) ≡ Y

computed : Runs
unfolding on_slot begin rules rule2 answer rule3 on_byte on_return on_other on_given digits xor_from sum_of ending serial owner lens_items version fixed_form ends joined zeros one_byte command_in command_of relettered replies silent runs is_n readies does_in does counts_in counts is_on unit_of
computed = record { with_b = refl; with_turn = refl; acts = refl; acts_last = refl; running = refl; is_n_lem = refl; is_y = refl }

-- ---- what a port sees of calls that are none of its own and turn nothing

seen_nothing : (a : Side) (h : Both) (m : Option Side) (q : Asked) → is_at a m ≡ false → turn_at a h m q ≡ none → seen_in a h m q ≡ []
seen_nothing a h None q o e = refl
seen_nothing Camera h (Some Camera) q o e = absurd (true≢false o)
seen_nothing External h (Some External) q o e = absurd (true≢false o)
seen_nothing Camera h (Some External) q o e = ap turn_calls e
seen_nothing External h (Some Camera) q o e = ap turn_calls e

none_seen : (a : Side) (h : Both) (cs : List Call) → Allowed Still a h cs → own_calls a cs ≡ [] → seen_at a h cs ≡ []
unfolding Allowed own_calls seen_at
none_seen a h [] w o = refl
none_seen a h (restart s c e ∷ cs) w o = never (cc)
none_seen a h (on n q ∷ cs) w o =
    let P : Bool → Type 0 = λ t. (cond t (on n q ∷ []) [] ++ own_calls a cs ≡ []) in
    told (is_at a (side_of n))
    (λ y. let z = subst P y o in never (cc))
    (λ y. ap₂ (λ (x z : List one.Call). x ++ z) (seen_nothing a h (side_of n) q y w.0) (none_seen a (after h (on n q)) cs w.1 (subst P y o)))

seen_append : (a : Side) (h : Both) (cs ds : List Call) → seen_at a h (cs ++ ds) ≡ seen_at a h cs ++ seen_at a (after_all h cs) ds
unfolding seen_at after_all
seen_append a h [] ds = refl
seen_append a h (c ∷ cs) ds = ap (λ (x : List one.Call). seen_by a h c ++ x) (seen_append a (after h c) cs ds) ∙ sym (append_assoc (seen_by a h c) _ _)

-- ---- the two runs

module _ (h : Both) where
  abbrev s : Settings
  s = bench_settings 0x42

  abbrev begun : Both
  begun = after h of_two.begin

  accepted : (start_both h.connectors h.lines s bench_measurement bench_measurement).verdict ≡ Ok tt
  unfolding settings_lowest fixed_lowest lens_lowest text_ok kind_ok letter_ok every failing first measurement_verdict measurement_lowest by_unit figures_lowest front_lowest middle_lowest back_lowest stop_ok
  accepted = (promised.restart.accepted h.connectors h.lines s bench_measurement bench_measurement).1 (refl, refl, refl)

  from : (cs : List Call) → Unrestarted cs → FromRestart (after_all begun cs)
  from cs u = record {
    old = h;
    settings = s;
    camera = bench_measurement;
    external = bench_measurement;
    accepted = accepted;
    calls = cs;
    unrestarted = u;
    held = refl;
  }

  -- the external port, woken, with Y taken
  abbrev x : Held
  x = held_at (after_all begun woken) External

  external_runs : view_of x ≡ run (start lens source) external
  unfolding seen_at side_of events_all
  external_runs = each_port.runs External h s bench_measurement bench_measurement woken accepted tt

  begun_view : view_of (held_at begun External) ≡ start lens source
  unfolding seen_at after_all events_all
  begun_view = each_port.runs External h s bench_measurement bench_measurement [] accepted tt

  none_begun : FromRestart begun
  unfolding after_all
  none_begun = from [] tt

  woken_acts : acted_at External begun woken ≡ joined blank 0x4E ∷ []
  unfolding seen_at side_of events_all
  woken_acts =
      each_port.acts External begun woken tt
      ∙ (port-answers.answers).acted_is (held_at begun External) (seen_at External begun woken) (from_start External begun none_begun)
      ∙ ap (λ (z : State lens). acted z external) begun_view
      ∙ computed.acts

  no_turn_yet : NoTurn (acted_at External begun woken)
  no_turn_yet l m =
      let e = ap command_of (the_only (subst (λ (ls : List Line). l ∈ ls) woken_acts m)) ∙ computed.is_n_lem in
      (λ i. let z : N ≡ X = sym e ∙ i in never (cc), λ i. let z : N ≡ Y = sym e ∙ i in never (cc))

  running : x.port.source.modes.state ≡ Running
  unfolding view
  running = ap (λ (z : State lens). (modes z).modes.state) external_runs ∙ computed.running

  turns : turn_by x slots_once ≡ some by_y
  unfolding acted_all events_all turns_in turn_of
  turns =
      let e = (port-answers.answers).acted_is x (one.slots_once ∷ []) (from_start External (after_all begun woken) (from woken tt)) in
      let ls : acted_by x one.slots_once ≡ joined blank 0x59 ∷ [] = sym (append-nil _) ∙ e ∙ ap (λ (z : State lens). acted z (slot ∷ [])) external_runs ∙ computed.acts_last in
      ap (turn_on x) ls ∙ ap (λ (k : RunState). turns_in k (joined blank 0x59)) running ∙ ap turn_of computed.is_y

  camera_sees : seen_at Camera begun (woken ++ on 1 slots_once ∷ own) ≡ one.turn by_y ∷ seen_at Camera (after (after_all begun woken) (on 1 slots_once)) own
  unfolding seen_at side_of own_calls
  camera_sees =
      let ds = seen_at Camera (after (after_all begun woken) (on 1 slots_once)) own in
      seen_append Camera begun woken (on 1 slots_once ∷ own)
      ∙ ap₂ (λ (y z : List one.Call). y ++ (z ++ ds)) (none_seen Camera begun woken (still Camera begun woken no_turn_yet) refl) (ap turn_calls turns)

  first_says : bytes_at Camera h of_two.first ≡ saying 0x62
  unfolding bytes_at seen_at side_of events_all
  first_says =
      each_port.run_sends Camera h s bench_measurement bench_measurement (woken ++ on 1 slots_once ∷ own) accepted tt
      ∙ ap (λ (cs : List one.Call). sent (start lens source) (events_all (held_at begun Camera) cs)) camera_sees
      ∙ computed.with_turn

  second_says : bytes_at Camera h of_two.second ≡ saying 0x42
  unfolding bytes_at seen_at side_of events_all
  second_says = each_port.run_sends Camera h s bench_measurement bench_measurement own accepted tt ∙ computed.with_b

-- behind the greeting, place 54
apart : saying 0x62 ≢ saying 0x42
unfolding digits ending serial owner lens_items version fixed_form
apart e =
    let z : ◌≡◌ {A = ℕ} 0x62 0x42 = ap (λ (xs : List ℕ). get_or xs 57 0) e in
    omega arith

pub differs : Differs
unfolding own_calls side_of
differs = record {
  own_same = refl;
  first_says = first_says;
  second_says = second_says;
  differ = λ h e. apart (sym (first_says h) ∙ e ∙ second_says h);
}
