-- What each public function promises: its answer.
use Rattle.std.specs.Prelude.{Bool, ◌≡◌}
use Rattle.line.specs.declared.Line.{Line}
use Rattle.state.specs.State.{unsent}
use Rattle.state.specs.declared.Source.{Source}
use Rattle.state.specs.declared.Message.{Message}
use Rattle.rules.specs.Does.{does, counts, continuous, record_message}
use Rattle.reply.specs.Reply.{acted_of}
use Rattle.reply.specs.declared.Acted.{Acted}

abbrev pub Act : Source → Line → Acted → Type 0
Act source line r = r ≡ acted_of (does source line)

abbrev pub Counts : Source → Line → Bool → Type 0
Counts source line r = r ≡ counts source line

abbrev pub IsContinuous : Source → Bool → Type 0
IsContinuous source r = r ≡ continuous source

abbrev pub RecordMessage : Source → Message → Type 0
RecordMessage source r = r ≡ unsent (record_message source)
