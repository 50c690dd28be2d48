-- What a command does not read: mostly not the start-up letter, and for the modes after it nothing but the modes. Statements only.
use Rattle.std.specs.Prelude.{ℕ, ◌≢◌, ◌≡◌}
use Rattle.line.specs.declared.Line.{Line}
use Rattle.line.specs.Command.{command_of}
use Rattle.line.specs.declared.Command.TheVariants.{N, X, Y}
use Rattle.state.specs.declared.Source.{Source}
use Rattle.rules.specs.Does.{lettered_with, does, counts, record_message}

-- the source with another start-up letter
abbrev pub lettered : ℕ → Source → Source
lettered a s = record { settings = lettered_with a s.settings; measurement = s.measurement; modes = s.modes }

pub record Unread : Type 0 where
  -- N alone answers the start-up letter
  pub letter_unsaid : (a : ℕ) (s : Source) (l : Line) → command_of l ≢ N → (does (lettered a s) l).reply ≡ (does s l).reply
  -- X and Y alone change it; every other command does what it does and leaves the letter
  pub letter_left : (a : ℕ) (s : Source) (l : Line) → command_of l ≢ X → command_of l ≢ Y → (does (lettered a s) l).source ≡ lettered a (does s l).source
  -- no record reads it
  pub letter_unsent : (a : ℕ) (s : Source) → record_message (lettered a s) ≡ record_message s
  -- the modes after a command, and how its reply counts, depend on the modes and the command alone
  pub modes_alone : (s t : Source) (l : Line) → s.modes ≡ t.modes → (does s l).source.modes ≡ (does t l).source.modes
  pub counts_alone : (s t : Source) (l : Line) → s.modes ≡ t.modes → counts s l ≡ counts t l
