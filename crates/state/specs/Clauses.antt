-- What each public function promises: its answer.
use Rattle.std.specs.Prelude.{Bool, ◌≡◌}
use Rattle.state.specs.State.{valid_message, valid_source}
use Rattle.state.specs.declared.Message.{Message}
use Rattle.state.specs.declared.Source.{Source}

abbrev pub ValidMessage : Message → Bool → Type 0
ValidMessage m r = r ≡ valid_message m

abbrev pub ValidSource : Source → Bool → Type 0
ValidSource s r = r ≡ valid_source s
