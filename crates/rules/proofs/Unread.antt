-- What a command does not read: each line of the table by computing it. Assumes nothing.
use Prim.Native.Nat.{ℕ}
use mathlib.Core.Logic.{◌≢◌}
use mathlib.Core.Path.{◌≡◌, refl, ap, ◌∙◌}
use Rattle.laws.proofs.Tests.{told}
use Rattle.fixed.specs.declared.Settings.{Settings}
use Rattle.units.specs.declared.Measurement.{Measurement}
use Rattle.line.specs.declared.Line.{Line}
use Rattle.line.specs.Command.{command_of}
use Rattle.line.specs.declared.Command.{Command}
use Rattle.line.specs.declared.Command.TheVariants.{B, C, D, G, H, Ka, Kb, Kc, Kd, K3, K4, N, P, «V», W, X, Y, Unknown}
use Rattle.state.specs.declared.Modes.{Modes}
use Rattle.state.specs.declared.Sending.{Sending}
use Rattle.state.specs.declared.Sending.TheVariants as sending
use Rattle.state.specs.declared.Source.{Source}
use Rattle.state.specs.declared.State.{State}
use Rattle.state.specs.declared.State.TheVariants.{Ready, Running}
use Rattle.rules.specs.Does.{replies, silent, record_is, record_message, runs, is_n, readies, does_in, does, counts_in, counts}
use Rattle.rules.specs.Unread.{lettered, Unread}
use Rattle.rules.proofs.Rows.{not_n}

-- ---- the start-up letter

record_same : (a : ℕ) (s : Source) (x : Sending) → record_is x (lettered a s) ≡ record_is x s
unfolding record_is
record_same a s sending.Off = refl
record_same a s sending.Text = refl
record_same a s sending.Packed = refl

runs_unsaid : (a : ℕ) (s : Source) (c : Command) → c ≢ N → (runs (lettered a s) c).reply ≡ (runs s c).reply
unfolding runs replies silent record_is
runs_unsaid a s B n = refl
runs_unsaid a s C n = refl
runs_unsaid a s D n = refl
runs_unsaid a s G n = refl
runs_unsaid a s H n = refl
runs_unsaid a s Ka n = refl
runs_unsaid a s (Kb r) n = refl
runs_unsaid a s Kc n = refl
runs_unsaid a s Kd n = refl
runs_unsaid a s K3 n = refl
runs_unsaid a s K4 n = refl
runs_unsaid a s N n = absurd (n refl)
runs_unsaid a s P n = refl
runs_unsaid a s «V» n = refl
runs_unsaid a s (W f) n = refl
runs_unsaid a s X n = refl
runs_unsaid a s Y n = refl
runs_unsaid a s Unknown n = told s.modes.inhibit (λ e. rw e) (λ e. rw e)

runs_left : (a : ℕ) (s : Source) (c : Command) → c ≢ X → c ≢ Y → (runs (lettered a s) c).source ≡ lettered a (runs s c).source
unfolding runs replies silent
runs_left a s B x y = refl
runs_left a s C x y = refl
runs_left a s D x y = refl
runs_left a s G x y = refl
runs_left a s H x y = refl
runs_left a s Ka x y = refl
runs_left a s (Kb r) x y = refl
runs_left a s Kc x y = refl
runs_left a s Kd x y = refl
runs_left a s K3 x y = refl
runs_left a s K4 x y = refl
runs_left a s N x y = refl
runs_left a s P x y = refl
runs_left a s «V» x y = refl
runs_left a s (W f) x y = refl
runs_left a s X x y = absurd (x refl)
runs_left a s Y x y = absurd (y refl)
runs_left a s Unknown x y = told s.modes.inhibit (λ e. rw e) (λ e. rw e)

readies_unsaid : (a : ℕ) (s : Source) (c : Command) → c ≢ N → (readies (lettered a s) c).reply ≡ (readies s c).reply
unfolding readies replies
readies_unsaid a s c n = rw (not_n c n)

readies_left : (a : ℕ) (s : Source) (c : Command) → (readies (lettered a s) c).source ≡ lettered a (readies s c).source
unfolding readies replies
readies_left a s c = told (is_n c) (λ e. rw e) (λ e. rw e)

unsaid : (k : State) (a : ℕ) (s : Source) (l : Line) → command_of l ≢ N → (does_in k (lettered a s) l).reply ≡ (does_in k s l).reply
unfolding does_in
unsaid Ready a s l n = readies_unsaid a s (command_of l) n
unsaid Running a s l n = runs_unsaid a s (command_of l) n

left : (k : State) (a : ℕ) (s : Source) (l : Line) → command_of l ≢ X → command_of l ≢ Y → (does_in k (lettered a s) l).source ≡ lettered a (does_in k s l).source
unfolding does_in
left Ready a s l x y = readies_left a s (command_of l)
left Running a s l x y = runs_left a s (command_of l) x y

-- ---- the modes

abbrev made : Settings → Measurement → Modes → Source
made a x m = record { settings = a; measurement = x; modes = m }

module _ (a b : Settings) (x y : Measurement) (m : Modes) where
  runs_alone : (c : Command) → (runs (made a x m) c).source.modes ≡ (runs (made b y m) c).source.modes
  unfolding runs replies silent
  runs_alone B = refl
  runs_alone C = refl
  runs_alone D = refl
  runs_alone G = refl
  runs_alone H = refl
  runs_alone Ka = refl
  runs_alone (Kb r) = refl
  runs_alone Kc = refl
  runs_alone Kd = refl
  runs_alone K3 = refl
  runs_alone K4 = refl
  runs_alone N = refl
  runs_alone P = refl
  runs_alone «V» = refl
  runs_alone (W f) = refl
  runs_alone X = refl
  runs_alone Y = refl
  runs_alone Unknown = told m.inhibit (λ e. rw e) (λ e. rw e)

  readies_alone : (c : Command) → (readies (made a x m) c).source.modes ≡ (readies (made b y m) c).source.modes
  unfolding readies replies
  readies_alone c = told (is_n c) (λ e. rw e) (λ e. rw e)

  alone : (k : State) (l : Line) → (does_in k (made a x m) l).source.modes ≡ (does_in k (made b y m) l).source.modes
  unfolding does_in
  alone Ready l = readies_alone (command_of l)
  alone Running l = runs_alone (command_of l)

pub unread : Unread
unfolding does counts record_message
unread = record {
  letter_unsaid = λ a s. unsaid s.modes.state a s;
  letter_left = λ a s. left s.modes.state a s;
  letter_unsent = λ a s. rw (record_same a s s.modes.sending);
  modes_alone = λ s t l e.
      alone s.settings t.settings s.measurement t.measurement s.modes s.modes.state l
      ∙ ap (λ (m : Modes). (does_in m.state (made t.settings t.measurement m) l).source.modes) e;
  counts_alone = λ s t l e. ap (λ (m : Modes). counts_in m.state l) e;
}
