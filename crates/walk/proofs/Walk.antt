-- The port and the paper's machine walk together, entry by entry. Assumes nothing.
use Prim.Native.Nat.{ℕ}
use mathlib.Core.Bool.{Bool, true, cond}
use mathlib.Core.List.{List}
use mathlib.Core.Option.{none}
use mathlib.Core.Path.{◌≡◌, refl, sym, ap, ap₂, subst, ◌∙◌}
use native.Mathlib.Omega.{arith}
use lib.ListN.{length}
use Rattle.std.specs.Prelude as std
use Rattle.std.specs.Prelude.{None, Some, is_some, Ok, Err}
use Rattle.laws.proofs.OverLaws.{take_over}
use Rattle.laws.proofs.Tests.{and_both, told}
use Rattle.refusal.specs.Answer.{Verdict, is_done}
use Rattle.machine.specs.Machine.{neither, port, start, on_return, on_other, on_byte, on_given, next, received, given}
use Rattle.refusal.specs.declared.Refusal.TheVariants as refusal
use Rattle.fixed.specs.declared.Settings.{Settings}
use Rattle.units.specs.Measurement.{measurement_verdict}
use Rattle.units.specs.declared.Measurement.{Measurement}
use Rattle.line.specs.declared.Line.{Line}
use Rattle.line.specs.Line.{blank, ends, joined, valid_line}
use Rattle.state.specs.State.{zeros}
use Rattle.state.proofs.Laws.{zeros_long}
use Rattle.rules.specs.Lens.{Turn, measurement, elsewhere, measured, lens, greeting}
use Rattle.port.specs.declared.Port.{Port}
use Rattle.port.specs.declared.Received.{Received}
use Rattle.port.specs.Port.{taken_port, taken_of, receive_of, handed, measured_port, measure_of, started_port, start_of}
use Rattle.port.proofs.Valid.{slot_fine}
use Rattle.port.proofs.Promises.{leaves_new}
use Rattle.walk.specs.View.{kind_of, waits_of, left_of, view}
use Rattle.walk.specs.Walk.{Sound, turned_port, Walks}
use Rattle.walk.proofs.Slot.{slot_alike}

-- ---- a start

started_view : (s : Settings) (m : Measurement) → view (started_port s m) blank ≡ start lens (started_port s m).source
unfolding view
started_view s m =
    let z = zeros_long in
    ap (λ (u : List ℕ). port (started_port s m).source none u neither blank) (take_over zeros greeting (length greeting) refl (omega arith))

start_walks : (old : Port) (l : Line) (s : Settings) (m : Measurement) → (start_of old l s m).verdict ≡ Ok tt →
    view (start_of old l s m).port (start_of old l s m).line ≡ start lens (started_port s m).source
start_walks old l s m e =
    let n = leaves_new old l s m e in
    ap₂ view n.0 n.1 ∙ started_view s m

-- ---- a received byte

taken_walks : (p : Port) (l : Line) → view (taken_of p l).port (taken_of p l).line ≡ (on_return (view p l)).0
unfolding taken_of view on_return
taken_walks p l = by_waiting p.waiting refl
  where
    by_waiting : (w : std.Option Line) → p.waiting ≡ w →
        let x : Received = cond (is_some w) (record { verdict = Err refusal.Dropped; port = p; line = blank }) (record { verdict = Ok tt; port = taken_port p l; line = blank }) in
        view x.port x.line ≡ (on_return (port p.source (waits_of w) (left_of p.message) (kind_of p.last) l)).0
    by_waiting (Some c) e = ap (λ (x : std.Option Line). port p.source (waits_of x) (left_of p.message) (kind_of p.last) blank) e
    by_waiting None e = refl

joins : (p : Port) (l : Line) (b : ℕ) → view p (joined l b) ≡ (on_other (view p l) b).0
unfolding view on_other
joins p l b = refl

receive_walks : (p : Port) (l : Line) (b : ℕ) → Sound p → valid_line l ≡ true → view (receive_of p l b).port (receive_of p l b).line ≡ next (view p l) (received b)
unfolding receive_of on_byte view
receive_walks p l b s v =
    let P : Bool → Type 0 = λ t.
    (let x : Received = cond t (taken_of p l) (record { verdict = Ok tt; port = p; line = joined l b }) in
    view x.port x.line ≡ (cond t (on_return (view p l)) (on_other (view p l) b)).0) in
    rw (and_both s.valid v)
    (told (ends l b) (λ y. subst P (sym y) (taken_walks p l)) (λ n. subst P (sym n) (joins p l b)))

-- ---- a measurement

measure_by : (v : Verdict) (p : Port) (l : Line) (m : Measurement) →
    view (handed v (measured_port p m) p).port l ≡ port (cond (is_done v) (measured_port p m).source p.source) (waits_of p.waiting) (left_of p.message) (kind_of p.last) l
unfolding handed view
measure_by (Ok tt) p l m = refl
measure_by (Err r) p l m = refl

measure_walks : (p : Port) (l : Line) (m : Measurement) → Sound p → view (measure_of p m).port l ≡ next (view p l) (given (measurement m))
unfolding measure_of view on_given measured
measure_walks p l m s = rw s.valid (measure_by (measurement_verdict m) p l m)

-- ---- X or Y elsewhere

turn_walks : (p : Port) (l : Line) (t : Turn) → view (turned_port t p) l ≡ next (view p l) (given (elsewhere t))
unfolding view on_given
turn_walks p l t = refl

-- ---- all

pub walks : Walks
walks = record {
  start_walks = start_walks;
  slot_walks = λ p l s. (slot_alike p l s).state;
  slot_sends = λ p l s. (slot_alike p l s).bytes;
  receive_walks = receive_walks;
  measure_walks = measure_walks;
  turn_walks = turn_walks;
  slot_sound = λ p s. record { valid = (slot_fine p s.valid).valid; long = (slot_alike p blank s).long };
}
