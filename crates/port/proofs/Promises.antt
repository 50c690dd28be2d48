-- A refusal changes no state, and a valid port stays valid: entry by entry. Assumes nothing.
use Prim.Native.Nat.{ℕ}
use mathlib.Core.Bool.{Bool, true, false, ◌&&◌, ◌||◌, cond}
use mathlib.Core.Logic.{⊎_elim}
use mathlib.Core.Path.{◌≡◌, refl, sym, ap, subst, ◌∙◌}
use lib.Dec.{eqb}
use Rattle.std.specs.Prelude.{is_some, Ok, Err}
use Rattle.laws.proofs.Tests.{and_right, and_both, cond_no, told, by, never}
use Rattle.refusal.specs.Answer.{Verdict, is_done}
use Rattle.refusal.specs.declared.Refusal.{Refusal}
use Rattle.refusal.specs.declared.Refusal.TheVariants as refusal
use Rattle.fixed.specs.Fixed.{settings_lowest}
use Rattle.fixed.specs.declared.Settings.{Settings}
use Rattle.units.specs.Units.{is_unit}
use Rattle.units.specs.Measurement.{measurement_verdict}
use Rattle.units.specs.declared.Measurement.{Measurement}
use Rattle.line.specs.declared.Line.{Line}
use Rattle.line.specs.Line.{blank, ends, joined, valid_line}
use Rattle.line.proofs.Laws.{blank_valid, joined_valid}
use Rattle.state.specs.State.{valid_modes, valid_message, valid_source}
use Rattle.rules.specs.Lens.{measured}
use Rattle.rules.proofs.Kept.{measured_valid}
use Rattle.port.specs.declared.Port.{Port}
use Rattle.port.specs.declared.Slotted.{Slotted}
use Rattle.port.specs.declared.Received.{Received}
use Rattle.port.specs.declared.Handed.{Handed}
use Rattle.port.specs.declared.Started.{Started}
use Rattle.port.specs.Port.{valid_port, slot_of, taken_port, taken_of, receive_of, handed, measured_port, measure_of, unit_of, started_port, start_verdict, started_by, start_of}
use Rattle.port.specs.Promises.{LeavesNew, StartUnit, RefusedSame, KeptValid}
use Rattle.port.proofs.Valid.{source_valid, message_valid, waiting_valid, made_valid, slot_fine}

-- what holds of the new port where it is accepted, and of the old one refused, holds of what a verdict hands back
pub by_handed : (P : Handed → Type 0) (v : Verdict) (new old : Port) →
    (v ≡ Ok tt → P (record { verdict = Ok tt; port = new })) → ((r : Refusal) → P (record { verdict = Err r; port = old })) → P (handed v new old)
unfolding handed
by_handed P (Ok tt) new old f g = f refl
by_handed P (Err r) new old f g = g r

-- ---- refusals

pub refused : (p : Port) → valid_port p ≡ false → slot_of p ≡ record { sent = Err refusal.State; port = p }
unfolding slot_of
refused p n = cond_no _ _ n

slot_same : (p : Port) (r : Refusal) → (slot_of p).sent ≡ Err r → (slot_of p).port ≡ p
slot_same p r e =
    told (valid_port p) (λ v. absurd ((slot_fine p v).answers r e)) (λ n. ap (λ (x : Slotted). x.port) (refused p n))

-- what a received byte leaves where it is refused: the port, and the line by the number
pub record Same (p : Port) (l : Line) (x : Received) : Type 0 where
  pub port : (r : Refusal) → x.verdict ≡ Err r → x.port ≡ p
  pub with_16 : x.verdict ≡ Err refusal.State → x.line ≡ l
  pub with_7 : x.verdict ≡ Err refusal.Dropped → x.line ≡ blank

done_same : (p q : Port) (l k : Line) → Same p l (record { verdict = Ok tt; port = q; line = k })
done_same p q l k = record {
  port = λ r e. never (cc);
  with_16 = λ e. never (cc);
  with_7 = λ e. never (cc);
}

taken_same : (p : Port) (l : Line) → Same p l (taken_of p l)
unfolding taken_of
taken_same p l =
    by (Same p l) (is_some p.waiting) _ _
    (λ y. record { port = λ r e. refl; with_16 = λ e. never (cc); with_7 = λ e. refl })
    (λ n. done_same p (taken_port p l) l blank)

receive_same : (p : Port) (l : Line) (b : ℕ) → Same p l (receive_of p l b)
unfolding receive_of
receive_same p l b =
    by (Same p l) (valid_port p && valid_line l) _ _
    (λ v. by (Same p l) (ends l b) _ _ (λ y. taken_same p l) (λ n. done_same p p l (joined l b)))
    (λ n. record { port = λ r e. refl; with_16 = λ e. refl; with_7 = λ e. never (cc) })

-- refused, the old port is handed back
abbrev Kept : Port → Refusal → Handed → Type 0
Kept old r x = x.verdict ≡ Err r → x.port ≡ old

handed_same : (v : Verdict) (new old : Port) (r : Refusal) → Kept old r (handed v new old)
handed_same v new old r = by_handed (Kept old r) v new old (λ d e. never (cc)) (λ x e. refl)

measure_same : (p : Port) (m : Measurement) (r : Refusal) → (measure_of p m).verdict ≡ Err r → (measure_of p m).port ≡ p
unfolding measure_of
measure_same p m r = by (Kept p r) (valid_port p) _ _ (λ v. handed_same (measurement_verdict m) (measured_port p m) p r) (λ n e. refl)

-- what holds of the new port and an empty line where a start is accepted, and of the old ones refused, holds of what its verdict hands back
by_started : (P : Started → Type 0) (v : Verdict) (new old : Port) (l : Line) →
    (v ≡ Ok tt → P (record { verdict = Ok tt; port = new; line = blank })) → ((r : Refusal) → v ≡ Err r → P (record { verdict = Err r; port = old; line = l })) →
    P (started_by v new old l)
unfolding handed
by_started P (Ok tt) new old l f g = f refl
by_started P (Err r) new old l f g = g r refl

start_same : (old : Port) (l : Line) (s : Settings) (m : Measurement) (r : Refusal) → (start_of old l s m).verdict ≡ Err r →
    ((start_of old l s m).port ≡ old) × ((start_of old l s m).line ≡ l)
unfolding start_of
start_same old l s m r =
    by_started (λ (x : Started). x.verdict ≡ Err r → (x.port ≡ old) × (x.line ≡ l)) (start_verdict s m) (started_port s m) old l
    (λ d e. never (cc))
    (λ x y e. (refl, refl))

pub refused_same : RefusedSame
refused_same = record {
  slot = slot_same;
  receive = λ p l b. (receive_same p l b).port;
  receive_16 = λ p l b. (receive_same p l b).with_16;
  receive_7 = λ p l b. (receive_same p l b).with_7;
  measure = measure_same;
  start = start_same;
}

-- ---- validity

unit_ok : (l : ℕ) → is_unit (unit_of l) ≡ true
unfolding unit_of
unit_ok l = by (λ (u : ℕ). is_unit u ≡ true) (eqb l 73 || eqb l 66) 73 77 (λ y. refl) (λ n. refl)

started_valid : (s : Settings) (m : Measurement) → eqb (settings_lowest s) 0 ≡ true → measurement_verdict m ≡ Ok tt → valid_port (started_port s m) ≡ true
unfolding valid_source valid_modes valid_message
started_valid s m a b =
    made_valid (started_port s m)
    (and_both a (and_both (ap is_done b) (and_both {b = is_unit (unit_of s.fixed.lens.letter) && true} refl (and_both (unit_ok s.fixed.lens.letter) refl))))
    refl
    refl

-- an accepted start leaves all new
pub leaves_new : LeavesNew
unfolding start_of
leaves_new old l s m =
    by_started (λ (x : Started). x.verdict ≡ Ok tt → (x.port ≡ started_port s m) × (x.line ≡ blank)) (start_verdict s m) (started_port s m) old l
    (λ d e. (refl, refl))
    (λ r y e. never (cc))

by_letter : (l : ℕ) {a u : ℕ} → l ≡ a → unit_of a ≡ u → unit_of l ≡ u
by_letter l e f = ap unit_of e ∙ f

pub start_unit : StartUnit
unfolding unit_of
start_unit = record {
  imperial = λ s m. ⊎_elim (λ e. by_letter _ e refl) (λ e. by_letter _ e refl);
  metric = λ s m. ⊎_elim (λ e. by_letter _ e refl) (λ e. by_letter _ e refl);
}

pub start_verdict_lem : (old : Port) (l : Line) (s : Settings) (m : Measurement) → (start_of old l s m).verdict ≡ start_verdict s m
unfolding start_of
start_verdict_lem old l s m = by_started (λ (x : Started). x.verdict ≡ start_verdict s m) (start_verdict s m) (started_port s m) old l (λ d. sym d) (λ r y. sym y)

start_fine : (s : Settings) (m : Measurement) → start_verdict s m ≡ Ok tt → (eqb (settings_lowest s) 0 ≡ true) × (measurement_verdict m ≡ Ok tt)
unfolding start_verdict
start_fine s m =
    by (λ (v : Verdict). v ≡ Ok tt → (eqb (settings_lowest s) 0 ≡ true) × (measurement_verdict m ≡ Ok tt)) (eqb (settings_lowest s) 0) _ _
    (λ y d. (y, d))
    (λ n d. never (cc))

start_valid : (old : Port) (l : Line) (s : Settings) (m : Measurement) → (start_of old l s m).verdict ≡ Ok tt → valid_port (start_of old l s m).port ≡ true
start_valid old l s m e =
    let f = start_fine s m (sym (start_verdict_lem old l s m) ∙ e) in
    subst (λ (p : Port). valid_port p ≡ true) (sym (leaves_new old l s m e).0) (started_valid s m f.0 f.1)

slot_valid : (p : Port) → valid_port p ≡ true → valid_port (slot_of p).port ≡ true
slot_valid p v = (slot_fine p v).valid

-- a line that is taken was tested
receive_valid : (p : Port) (l : Line) (b : ℕ) → valid_port p ≡ true → valid_port (receive_of p l b).port ≡ true
unfolding receive_of taken_of
receive_valid p l b v =
    let P : Received → Type 0 = λ x. valid_port x.port ≡ true in
    by P (valid_port p && valid_line l) _ _
    (λ t.
    by P (ends l b) _ _
    (λ y. by P (is_some p.waiting) _ _ (λ w. v) (λ w. made_valid (taken_port p l) (source_valid p v) (message_valid p v) (and_right (valid_port p) (valid_line l) t)))
    (λ n. v))
    (λ n. v)

kept_line : (p : Port) (l : Line) (b : ℕ) → valid_line l ≡ true → valid_line (receive_of p l b).line ≡ true
unfolding receive_of taken_of
kept_line p l b v =
    let P : Received → Type 0 = λ x. valid_line x.line ≡ true in
    by P (valid_port p && valid_line l) _ _
    (λ t. by P (ends l b) _ _ (λ y. by P (is_some p.waiting) _ _ (λ w. blank_valid) (λ w. blank_valid)) (λ n. joined_valid l b v))
    (λ n. v)

-- an accepted measurement in a valid port
measured_fits : (p : Port) (m : Measurement) → valid_port p ≡ true → measurement_verdict m ≡ Ok tt → valid_port (measured_port p m) ≡ true
unfolding measured
measured_fits p m v d =
    made_valid (measured_port p m)
    (subst (λ (b : Bool). valid_source (cond b (measured_port p m).source p.source) ≡ true) (ap is_done d) (measured_valid p.source m (source_valid p v)))
    (message_valid p v) (waiting_valid p v)

measure_valid : (p : Port) (m : Measurement) → valid_port p ≡ true → valid_port (measure_of p m).port ≡ true
unfolding measure_of
measure_valid p m v =
    let P : Handed → Type 0 = λ x. valid_port x.port ≡ true in
    by P (valid_port p) _ _ (λ y. by_handed P (measurement_verdict m) (measured_port p m) p (measured_fits p m v) (λ r. v)) (λ n. v)

pub kept_valid : KeptValid
kept_valid = record { start = start_valid; slot = slot_valid; receive = receive_valid; line = kept_line; measure = measure_valid }
