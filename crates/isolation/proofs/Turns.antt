-- What a command makes of the source, whatever the letter is: the measurement and the settings stay, but for a turn of the letter. Assumes nothing.
use Prim.Native.Nat.{ℕ}
use mathlib.Core.Bool.{true, true≢false}
use mathlib.Core.Logic.{◌⊎◌, inl, inr, ◌≢◌}
use mathlib.Core.Option.{Option, none, some}
use mathlib.Core.Path.{◌≡◌, refl, sym, ap, ◌∙◌}
use Rattle.laws.proofs.Tests.{told}
use Rattle.line.specs.declared.Line.{Line}
use Rattle.line.specs.Command.{command_of}
use Rattle.line.specs.declared.Command.{Command}
use Rattle.line.specs.declared.Command.TheVariants.{B, C, D, G, H, Ka, Kb, Kc, Kd, K3, K4, N, P, «V», W, X, Y, Unknown}
use Rattle.state.specs.declared.Modes.{Modes}
use Rattle.state.specs.declared.Source.{Source}
use Rattle.state.specs.declared.State.{State}
use Rattle.state.specs.declared.State.TheVariants.{Ready, Running}
use Rattle.rules.specs.Does.{relettered, replies, silent, runs, is_n, readies, does_in, does}
use Rattle.rules.specs.Lens.{Turn, turns_to}
use Rattle.rules.specs.Unread.{lettered}
use Rattle.rules.proofs.Unread.{unread}
use Rattle.isolation.specs.Turns.{turn_of, turns_in, turned_by}
use Rattle.isolation.specs.Isolated.{reply_to_n}

-- ---- what it leaves

abbrev leaves : Source → Option Turn → Modes → Source
leaves s t m = record { settings = turned_by t s.settings; measurement = s.measurement; modes = m }

runs_leaves : (s : Source) (c : Command) → (runs s c).source ≡ leaves s (turn_of c) (runs s c).source.modes
unfolding runs replies silent turn_of
runs_leaves s B = refl
runs_leaves s C = refl
runs_leaves s D = refl
runs_leaves s G = refl
runs_leaves s H = refl
runs_leaves s Ka = refl
runs_leaves s (Kb r) = refl
runs_leaves s Kc = refl
runs_leaves s Kd = refl
runs_leaves s K3 = refl
runs_leaves s K4 = refl
runs_leaves s N = refl
runs_leaves s P = refl
runs_leaves s «V» = refl
runs_leaves s (W f) = refl
runs_leaves s X = refl
runs_leaves s Y = refl
runs_leaves s Unknown = told s.modes.inhibit (λ e. rw e) (λ e. rw e)

readies_leaves : (s : Source) (c : Command) → (readies s c).source ≡ leaves s none (readies s c).source.modes
unfolding readies replies
readies_leaves s c = told (is_n c) (λ e. rw e) (λ e. rw e)

does_leaves : (s : Source) (l : Line) → (does s l).source ≡ leaves s (turns_in s.modes.state l) (does s l).source.modes
unfolding does does_in turns_in
does_leaves s l = go s.modes.state
  where
    go : (k : State) → (does_in k s l).source ≡ leaves s (turns_in k l) (does_in k s l).source.modes
    go Ready = readies_leaves s (command_of l)
    go Running = runs_leaves s (command_of l)

pub settings_after : (s : Source) (l : Line) → (does s l).source.settings ≡ turned_by (turns_in s.modes.state l) s.settings
settings_after s l = ap (λ (x : Source). x.settings) (does_leaves s l)

-- ---- with another letter

abbrev pub letter_by : Option Turn → ℕ → ℕ
letter_by none b = b
letter_by (some t) b = relettered (turns_to t) b

lettered_leaves : (b : ℕ) (s : Source) (t : Option Turn) (m : Modes) → leaves (lettered b s) t m ≡ lettered (letter_by t b) (leaves s t m)
lettered_leaves b s none m = refl
lettered_leaves b s (some t) m = refl

-- a command does what it does, and leaves another letter
pub does_lettered : (b : ℕ) (s : Source) (l : Line) → (does (lettered b s) l).source ≡ lettered (letter_by (turns_in s.modes.state l) b) (does s l).source
does_lettered b s l =
    let t = turns_in s.modes.state l in
    does_leaves (lettered b s) l
    ∙ ap (leaves (lettered b s) t) (unread.modes_alone (lettered b s) s l refl)
    ∙ lettered_leaves b s t _
    ∙ ap (lettered (letter_by t b)) (sym (does_leaves s l))

-- ---- N, X and Y among the commands

pub is_n_lem : (c : Command) → is_n c ≡ true → c ≡ N
unfolding is_n
is_n_lem N e = refl
is_n_lem B e = absurd (true≢false (sym e))
is_n_lem C e = absurd (true≢false (sym e))
is_n_lem D e = absurd (true≢false (sym e))
is_n_lem G e = absurd (true≢false (sym e))
is_n_lem H e = absurd (true≢false (sym e))
is_n_lem Ka e = absurd (true≢false (sym e))
is_n_lem (Kb r) e = absurd (true≢false (sym e))
is_n_lem Kc e = absurd (true≢false (sym e))
is_n_lem Kd e = absurd (true≢false (sym e))
is_n_lem K3 e = absurd (true≢false (sym e))
is_n_lem K4 e = absurd (true≢false (sym e))
is_n_lem P e = absurd (true≢false (sym e))
is_n_lem «V» e = absurd (true≢false (sym e))
is_n_lem (W f) e = absurd (true≢false (sym e))
is_n_lem X e = absurd (true≢false (sym e))
is_n_lem Y e = absurd (true≢false (sym e))
is_n_lem Unknown e = absurd (true≢false (sym e))

pub n_or_not : (c : Command) → (c ≡ N) ⊎ (c ≢ N)
unfolding is_n
n_or_not c = told (is_n c) (λ e. inl (is_n_lem c e)) (λ e. inr (λ i. true≢false (sym (ap is_n i) ∙ e)))

-- the reply to N, in ready and in running
pub says_fixed : (s : Source) (l : Line) → command_of l ≡ N → (does s l).reply ≡ reply_to_n s.modes.checksum s.settings.fixed
unfolding does does_in readies runs replies is_n
says_fixed s l e = go s.modes.state
  where
    go : (k : State) → (does_in k s l).reply ≡ reply_to_n s.modes.checksum s.settings.fixed
    go Ready = rw e
    go Running = rw e

pub no_turn : (c : Command) → c ≢ X → c ≢ Y → turn_of c ≡ none
unfolding turn_of
no_turn B x y = refl
no_turn C x y = refl
no_turn D x y = refl
no_turn G x y = refl
no_turn H x y = refl
no_turn Ka x y = refl
no_turn (Kb r) x y = refl
no_turn Kc x y = refl
no_turn Kd x y = refl
no_turn K3 x y = refl
no_turn K4 x y = refl
no_turn N x y = refl
no_turn P x y = refl
no_turn «V» x y = refl
no_turn (W f) x y = refl
no_turn X x y = absurd (x refl)
no_turn Y x y = absurd (y refl)
no_turn Unknown x y = refl
