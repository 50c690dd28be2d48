-- What each public function promises: its answer, and what lent memory holds after it.
use Rattle.std.specs.Prelude.{ℕ, ◌≡◌}
use Rattle.laws.specs.Gives.{Gives}
use Rattle.line.specs.declared.Line.{Line}
use Rattle.collector.specs.Collect.{line_after, collected, updated}
use Rattle.collector.specs.declared.Collected.{Collected}
use Rattle.collector.specs.declared.Updated.{Updated}

abbrev pub LineAfter : Line → ℕ → Line → Type 0
LineAfter line byte r = r ≡ line_after line byte

abbrev pub Answered : Line → ℕ → Collected → Type 0
Answered line byte r = r ≡ collected line byte

abbrev pub Collect : Line → ℕ → Collected → Line → Type 0
Collect line byte r after = Gives (collected line byte) (line_after line byte) r after

abbrev pub Lend : Line → ℕ → Updated → Type 0
Lend line byte r = r ≡ updated line byte
