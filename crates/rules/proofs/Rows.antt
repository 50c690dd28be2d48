-- The table's rows are what the promises ask, for every source: each by computing it, P's with the laws of `degrees`. Assumes nothing.
use Prim.Native.Nat.{ℕ}
use mathlib.Core.Bool.{Bool, false}
use mathlib.Core.List.{List, ◌∷◌}
use mathlib.Core.Logic.{◌≢◌}
use mathlib.Core.Path.{◌≡◌, refl, ap, ◌∙◌}
use lib.IntN.{ℤ, pos, negsuc}
use borrow.Author.Tests.{eq-eqb, eqb-true}
use Rattle.laws.proofs.Tests.{told}
use Rattle.digits.specs.Digits.{digits}
use Rattle.frame.specs.Frame.{xor_from, sum_of, ending, framed}
use Rattle.line.specs.Line.{CR, ends}
use Rattle.line.specs.Command.{command_of}
use Rattle.line.specs.declared.Line.{Line}
use Rattle.line.specs.declared.Command.{Command}
use Rattle.line.specs.declared.Command.TheVariants.{B, C, D, G, H, Ka, Kb, Kc, Kd, K3, K4, N, P, «V», W, X, Y, Unknown}
use Rattle.state.specs.declared.State.{State}
use Rattle.state.specs.declared.Sending.{Sending}
use Rattle.state.specs.declared.Source.{Source}
use Rattle.units.specs.Measurement.{degrees}
use Rattle.units.proofs.Degrees.{degrees_mild, degrees_cold, degrees_hot}
use Rattle.rules.specs.Does.{with_modes, relettered, replies, silent, runs, record_is, is_n, readies, does_in, does, counts_in, counts, record_message, is_on}
use Rattle.rules.specs.Lens.{lens, measured}
use Rattle.rules.specs.Rows.{Untouched, others, Rows}

-- a command but N is not N
pub not_n : (c : Command) → c ≢ N → is_n c ≡ false
unfolding is_n
not_n N n = absurd (n refl)
not_n B n = refl
not_n C n = refl
not_n D n = refl
not_n G n = refl
not_n H n = refl
not_n Ka n = refl
not_n (Kb r) n = refl
not_n Kc n = refl
not_n Kd n = refl
not_n K3 n = refl
not_n K4 n = refl
not_n P n = refl
not_n «V» n = refl
not_n (W f) n = refl
not_n X n = refl
not_n Y n = refl
not_n Unknown n = refl

-- a switch touches four of the modes only
pub untouched : (s : Source) (state : State) (x : Sending) (checksum inhibit : Bool)
    → Untouched s
    (with_modes s
    (record {
      state = state;
      sending = x;
      checksum = checksum;
      inhibit = inhibit;
      film = s.modes.film;
      unit = s.modes.unit;
      rate = s.modes.rate;
      next_rate = s.modes.next_rate;
    }))
untouched s state x checksum inhibit = record { settings = refl; measurement = refl; film = refl; unit = refl; rate = refl; next_rate_lem = refl }

-- the lens in a state, by the decision of that state
by_state : (s : Source) (l : Line) {k : State} → s.modes.state ≡ k → (lens.act s l ≡ (does_in k s l).source) × (lens.reply_to s l ≡ (does_in k s l).reply)
unfolding does
by_state s l e = (ap (λ (k : State). (does_in k s l).source) e, ap (λ (k : State). (does_in k s l).reply) e)

-- P's reply from what is sent of the temperature
p_sends : (s : Source) {t : ℤ} {body : List ℕ} → s.measurement.temperature ≡ t → degrees t ≡ body → (runs s P).reply ≡ framed s.modes.checksum (80 ∷ body)
unfolding replies runs
p_sends s e f = ap (λ (x : List ℕ). framed s.modes.checksum (80 ∷ x)) (ap degrees e ∙ f)

stay : (s : Source) (c : Command) → others (runs s c).source ≡ others s
unfolding replies silent runs
stay s B = refl
stay s C = refl
stay s D = refl
stay s G = refl
stay s H = refl
stay s Ka = refl
stay s (Kb n) = refl
stay s Kc = refl
stay s Kd = refl
stay s K3 = refl
stay s K4 = refl
stay s N = refl
stay s P = refl
stay s «V» = refl
stay s (W n) = refl
stay s X = refl
stay s Y = refl
stay s Unknown = told s.modes.inhibit (λ e. rw e) (λ e. rw e)

pub rows : (s : Source) → Rows s
unfolding ends relettered digits replies silent runs record_is is_n readies does_in counts counts_in measured record_message is_on xor_from sum_of ending
rows s = record {
  ends_at_cr = λ l b. (λ e. eqb-true b CR e, λ e. eq-eqb b CR e);
  start_greets = refl;
  start_ready = λ u. refl;
  start_off = λ u. (refl, (refl, refl));
  start_film = λ u. refl;
  start_rate = λ u. (refl, refl);
  ready_acts = λ l. by_state s l;
  running_acts = λ l. by_state s l;
  ended_rate = refl;
  ended_keeps = (refl, refl, refl);
  ended_switches = refl;
  measures = λ m e. rw e;
  x_elsewhere = refl;
  y_elsewhere = refl;
  elsewhere_keeps = λ t. refl;
  elsewhere_switches = λ t. refl;
  ready_n = refl;
  ready_wakes = refl;
  waking_keeps = untouched s _ _ _ _;
  waking_switches = refl;
  ready_answers = λ c n. rw (not_n c n);
  ready_stays = λ c n. rw (not_n c n);
  others_stay = stay s;
  c_switches = refl;
  kc_switches = refl;
  g_switches = refl;
  ka_switches = refl;
  h_switches = refl;
  kb_switches = λ n. refl;
  v_switches = refl;
  w_switches = λ n. refl;
  x_switches = refl;
  y_switches = refl;
  i_stays = λ e. (ap (relettered 66) e, ap (relettered 98) e);
  m_stays = λ e. (ap (relettered 66) e, ap (relettered 98) e);
  b_turns = λ e. (ap (relettered 66) e, ap (relettered 98) e);
  capital_b_turns = λ e. (ap (relettered 66) e, ap (relettered 98) e);
  b_asks = refl;
  d_asks = refl;
  kd_asks = refl;
  k3_asks = refl;
  k4_asks = refl;
  n_asks = refl;
  p_asks = refl;
  unknown_keeps = told s.modes.inhibit (λ e. rw e) (λ e. rw e);
  g_answers = refl;
  h_answers = refl;
  b_answers = refl;
  c_answers = refl;
  kc_answers = refl;
  ka_answers = refl;
  d_answers = refl;
  kd_answers = refl;
  kb_answers = λ n. refl;
  k3_answers = refl;
  k4_answers = refl;
  n_answers = refl;
  v_answers = refl;
  w_answers = λ n. refl;
  x_answers = refl;
  y_answers = refl;
  unknown_answers = λ e. rw e;
  inhibited = λ e. rw e;
  mild = λ n h e. p_sends s e (degrees_mild (pos n) refl h);
  cold = λ n e. p_sends s e (degrees_cold (negsuc n) refl);
  hot = λ n h e. p_sends s e (degrees_hot (pos n) refl h);
  text_on_lem = ap is_on;
  packed_on = ap is_on;
  stays_off = ap is_on;
  text_record = λ e. rw e;
  packed_record_lem = λ e. rw e;
  uncounted = λ l e n. ap (λ (k : State). counts_in k l) e ∙ not_n (command_of l) n;
  waking_counts = λ l e n. ap (λ (k : State). counts_in k l) e ∙ ap is_n n;
  running_counts = λ l e. ap (λ (k : State). counts_in k l) e;
}
