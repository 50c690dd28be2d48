-- What each command does: the source stays valid and the reply fits, one line a command. So `Good` is kept by every event. Assumes nothing.
use Prim.Native.Nat.{ℕ, ◌≤◌}
use mathlib.Core.Bool.{Bool, true, false, ◌||◌, cond, true≢false}
use mathlib.Core.List.{List, [], ◌∷◌}
use mathlib.Core.Path.{◌≡◌, refl, sym, ap, ◌∙◌}
use native.Mathlib.Omega.{arith}
use borrow.Author.Tests.{eqb-true, le-leb}
use lib.Dec.{leb, eqb}
use lib.ListN.{length}
use Rattle.laws.proofs.Tests.{told, cond_no, never}
use Rattle.refusal.specs.Answer.{is_done}
use Rattle.record.specs.Forms.{text_length}
use Rattle.fixed.specs.Fixed.{letter_ok, lens_lowest, fixed_lowest, settings_lowest}
use Rattle.fixed.specs.declared.Settings.{Settings}
use Rattle.units.specs.Units.{is_unit}
use Rattle.units.specs.Measurement.{measurement_verdict}
use Rattle.units.specs.declared.Measurement.{Measurement}
use Rattle.units.proofs.Degrees.{degrees_long}
use Rattle.line.specs.declared.Line.{Line}
use Rattle.line.specs.Command.{command_of, InRange}
use Rattle.line.specs.declared.Command.{Command}
use Rattle.line.specs.declared.Command.TheVariants.{B, C, D, G, H, Ka, Kb, Kc, Kd, K3, K4, N, P, «V», W, X, Y, Unknown}
use Rattle.line.proofs.Laws.{command_range}
use Rattle.state.specs.declared.Source.{Source}
use Rattle.state.specs.declared.Modes.{Modes}
use Rattle.state.specs.declared.State.{State}
use Rattle.state.specs.declared.State.TheVariants.{Ready, Running}
use Rattle.state.specs.declared.Sending.TheVariants as sending
use Rattle.state.specs.State.{valid_source}
use Rattle.rules.specs.Does.{Outcome, with_modes, film_now, rate_next, rate_moved, unit_with, relettered, letter_now, is_on, continuous, replies, silent, runs, is_n, wakes, readies, does_in, does, counts_in, counts}
use Rattle.rules.specs.Lens.{Turn, by_x, by_y, turns_to, turned, Given, measurement, elsewhere, measured, with_given, Good, longest_reply}
use Rattle.rules.proofs.Valid.{Valid, done_is, valid_told, valid_made, untouched_valid}
use Rattle.rules.specs.Rows.{Others}
use Rattle.rules.proofs.Rows.{untouched, rows}
use Rattle.rules.proofs.Lengths.{framed_at_most, items_told, blur_long, fixed_long, record_body}

-- ---- the effects

modes_valid : (s : Source) (m : Modes) → Valid s →
    leb m.film 31 ≡ true → is_unit m.unit ≡ true → leb m.rate 7 ≡ true → leb m.next_rate 7 ≡ true → Valid (with_modes s m)
modes_valid s m p film unit rate next_rate_lem = record {
  settings = p.settings;
  measurement = p.measurement;
  film = film;
  unit = unit;
  rate = rate;
  next_rate_lem = next_rate_lem;
}

film_valid : (n : ℕ) (s : Source) → n ≤ 31 → Valid s → Valid (with_modes s (film_now n s.modes))
film_valid n s h p = modes_valid s _ p (le-leb n 31 h) p.unit p.rate p.next_rate_lem

rate_valid : (n : ℕ) (s : Source) → n ≤ 7 → Valid s → Valid (with_modes s (rate_next n s.modes))
rate_valid n s h p = modes_valid s _ p p.film p.unit p.rate (le-leb n 7 h)

moved_valid : (s : Source) → Valid s → Valid (with_modes s (rate_moved s.modes))
moved_valid s p = modes_valid s _ p p.film p.unit p.next_rate_lem p.next_rate_lem

neither : {a b : Bool} → a ≡ false → b ≡ false → (a || b) ≡ false
neither p q = λ i. p i || q i

-- a letter changed by X or Y is as much a letter as it was, so the settings stay in range
relettered_same : (to l : ℕ) → letter_ok to ≡ true → letter_ok (relettered to l) ≡ letter_ok l
unfolding relettered letter_ok
relettered_same to l h =
    told (eqb l 66)
    (λ b. rw (eqb-true l 66 b) h)
    (λ b. told (eqb l 98) (λ c. rw (eqb-true l 98 c) h) (λ c. ap letter_ok (cond_no to l (neither b c))))

letter_same : (to : ℕ) (s : Settings) → letter_ok to ≡ true → settings_lowest (letter_now to s) ≡ settings_lowest s
unfolding settings_lowest fixed_lowest lens_lowest
letter_same to s h = rw (relettered_same to s.fixed.lens.letter h)

unit_valid : (u to : ℕ) (s : Source) → is_unit u ≡ true → letter_ok to ≡ true → Valid s → Valid (unit_with u to s)
unit_valid u to s k h p = record {
  settings = letter_same to s.settings h ∙ p.settings;
  measurement = p.measurement;
  film = p.film;
  unit = k;
  rate = p.rate;
  next_rate_lem = p.next_rate_lem;
}

-- ---- the commands

-- what a command does is in order: the source is valid, and the reply fits
record Fine (d : Outcome) : Type 0 where
  valid : Valid d.source
  fits : length d.reply ≤ longest_reply

replies_fine : (s : Source) (body : List ℕ) → Valid s → length body ≤ text_length → Fine (replies s body)
unfolding replies
replies_fine s body p h = record { valid = p; fits = omega (arith, framed_at_most s.modes.checksum body) }

silent_fine : (s : Source) → Valid s → Fine (silent s)
unfolding silent
silent_fine s p = record { valid = p; fits = omega arith }

unknown_fine : (inhibit : Bool) (s : Source) → Valid s → Fine (cond inhibit (silent s) (replies s (63 ∷ [])))
unknown_fine true s p = silent_fine s p
unknown_fine false s p = replies_fine s (63 ∷ []) p (omega arith)

runs_fine : (s : Source) (c : Command) → Valid s → InRange c → Fine (runs s c)
unfolding runs letter_ok
runs_fine s B p r = replies_fine s _ p (omega (arith, (items_told s.settings p.settings).version))
runs_fine s C p r = replies_fine _ _ (untouched_valid s _ (untouched s _ _ _ _) p) (omega arith)
runs_fine s D p r = replies_fine s _ p (record_body s p sending.Text)
runs_fine s G p r = replies_fine _ _ (untouched_valid s _ (untouched s _ _ _ _) p) (omega arith)
runs_fine s H p r = replies_fine _ _ (untouched_valid s _ (untouched s _ _ _ _) p) (omega arith)
runs_fine s Ka p r = replies_fine _ _ (untouched_valid s _ (untouched s _ _ _ _) p) (omega arith)
runs_fine s (Kb n) p r = replies_fine _ _ (rate_valid n s (r.rate n refl) p) (omega arith)
runs_fine s Kc p r = replies_fine _ _ (untouched_valid s _ (untouched s _ _ _ _) p) (omega arith)
runs_fine s Kd p r = replies_fine s _ p (record_body s p sending.Packed)
runs_fine s K3 p r = replies_fine s _ p (omega (arith, (items_told s.settings p.settings).maker))
runs_fine s K4 p r = replies_fine s _ p (omega (arith, (items_told s.settings p.settings).type_name_lem))
runs_fine s N p r = replies_fine s _ p (omega (arith, fixed_long s p))
runs_fine s P p r = replies_fine s _ p (omega (arith, degrees_long s.measurement.temperature))
runs_fine s «V» p r = replies_fine _ _ (film_valid 0 s (omega arith) p) (omega (arith, blur_long 0 s.settings))
runs_fine s (W n) p r = replies_fine _ _ (film_valid n s (r.film n refl) p) (omega (arith, blur_long n s.settings))
runs_fine s X p r = replies_fine _ _ (unit_valid 73 66 s refl refl p) (omega arith)
runs_fine s Y p r = replies_fine _ _ (unit_valid 77 98 s refl refl p) (omega arith)
runs_fine s Unknown p r = unknown_fine s.modes.inhibit s p

readies_fine : (s : Source) (c : Command) → Valid s → Fine (readies s c)
unfolding readies
readies_fine s c p = go (is_n c)
  where
    go : (n : Bool) → Fine (cond n (wakes s) (replies s (60 ∷ [])))
    go true = replies_fine _ _ (untouched_valid s _ (untouched s _ _ _ _) p) (omega (arith, fixed_long s p))
    go false = replies_fine s _ p (omega arith)

does_fine : (s : Source) (l : Line) → valid_source s ≡ true → Fine (does s l)
unfolding does does_in
does_fine s l v = go s.modes.state
  where
    go : (t : State) → Fine (does_in t s l)
    go Ready = readies_fine s (command_of l) (valid_told s v)
    go Running = runs_fine s (command_of l) (valid_told s v) (command_range l)

-- ---- what others use: of every valid source

pub does_valid : (s : Source) (l : Line) → valid_source s ≡ true → valid_source (does s l).source ≡ true
does_valid s l v = valid_made _ (does_fine s l v).valid

pub reply_at_most : (s : Source) (l : Line) → valid_source s ≡ true → length (does s l).reply ≤ longest_reply
reply_at_most s l v = (does_fine s l v).fits

pub ended_valid : (s : Source) → valid_source s ≡ true → valid_source (with_modes s (rate_moved s.modes)) ≡ true
ended_valid s v = valid_made _ (moved_valid s (valid_told s v))

pub measured_valid : (s : Source) (m : Measurement) → valid_source s ≡ true → valid_source (measured s m) ≡ true
unfolding measured
measured_valid s m v =
    let p = valid_told s v in
    told (is_done (measurement_verdict m))
    (λ e.
    rw e
    (valid_made (record { settings = s.settings; measurement = m; modes = s.modes })
    (record { settings = p.settings; measurement = done_is _ e; film = p.film; unit = p.unit; rate = p.rate; next_rate_lem = p.next_rate_lem })))
    (λ e. rw e v)

turns_to_letter : (t : Turn) → letter_ok (turns_to t) ≡ true
unfolding letter_ok
turns_to_letter by_x = refl
turns_to_letter by_y = refl

-- in the other direction too: a letter turned elsewhere makes no source valid or invalid
pub turned_same : (t : Turn) (s : Source) → valid_source (turned t s) ≡ valid_source s
unfolding valid_source
turned_same t s = rw (letter_same (turns_to t) s.settings (turns_to_letter t))

-- ---- continuous sending: off in ready

-- no command of ready switches it
readies_sending : (s : Source) (c : Command) → continuous (readies s c).source ≡ continuous s
unfolding readies replies
readies_sending s c = told (is_n c) (λ e. rw e) (λ e. rw e)

-- no command goes back to ready
runs_state : (s : Source) (c : Command) → (runs s c).source.modes.state ≡ s.modes.state
runs_state s c = ap (λ (x : Others). x.0) ((rows s).others_stay c)

-- where what a command answers does not count as a reply, continuous sending is off
pub uncounted_off : (s : Source) (l : Line) → Good s → counts s l ≡ false → continuous (does s l).source ≡ false
unfolding does does_in counts counts_in
uncounted_off s l g = go s.modes.state refl
  where
    go : (t : State) → s.modes.state ≡ t → counts_in t l ≡ false → continuous (does_in t s l).source ≡ false
    go Ready e f = readies_sending s (command_of l) ∙ g.ready_off e
    go Running e f = absurd (true≢false f)

ready_off_kept : (s : Source) (l : Line) → Good s → (does s l).source.modes.state ≡ Ready → continuous (does s l).source ≡ false
unfolding does does_in
ready_off_kept s l g = go s.modes.state refl
  where
    go : (t : State) → s.modes.state ≡ t → (does_in t s l).source.modes.state ≡ Ready → continuous (does_in t s l).source ≡ false
    go Ready e h = readies_sending s (command_of l) ∙ g.ready_off e
    go Running e h =
        let r : Running ≡ Ready = sym e ∙ sym (runs_state s (command_of l)) ∙ h in
        never (cc)

pub act_good : (s : Source) (l : Line) → Good s → Good (does s l).source
act_good s l g = record { valid = does_valid s l g.valid; ready_off = ready_off_kept s l g }

pub ended_good : (s : Source) → Good s → Good (with_modes s (rate_moved s.modes))
ended_good s g = record { valid = ended_valid s g.valid; ready_off = g.ready_off }

measured_modes : (s : Source) (m : Measurement) → (measured s m).modes ≡ s.modes
unfolding measured
measured_modes s m = told (is_done (measurement_verdict m)) (λ e. rw e) (λ e. rw e)

measured_good : (s : Source) (m : Measurement) → Good s → Good (measured s m)
measured_good s m g =
    let q = measured_modes s m in
    record {
      valid = measured_valid s m g.valid;
      ready_off = λ h. ap (λ (x : Modes). is_on x.sending) q ∙ g.ready_off (sym (ap (λ (x : Modes). x.state) q) ∙ h);
    }

pub given_good : (s : Source) (x : Given) → Good s → Good (with_given s x)
given_good s (measurement m) g = measured_good s m g
given_good s (elsewhere t) g = record { valid = turned_same t s ∙ g.valid; ready_off = g.ready_off }
