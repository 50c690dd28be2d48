-- One answer for each contract of a public function. Assumes nothing.
use mathlib.Core.Bool.{Bool}
use mathlib.Core.Path.{◌≡◌}
use Rattle.laws.proofs.OneAnswer.{one_answer}
use Rattle.line.specs.declared.Line.{Line}
use Rattle.state.specs.declared.Message.{Message}
use Rattle.state.specs.declared.Source.{Source}
use Rattle.reply.specs.Clauses.{Act, Counts, IsContinuous, RecordMessage}
use Rattle.reply.specs.declared.Acted.{Acted}

pub one_act : (source : Source) (line : Line) {r r' : Acted} → Act source line r → Act source line r' → r ≡ r'
one_act source line = one_answer

pub one_counts : (source : Source) (line : Line) {r r' : Bool} → Counts source line r → Counts source line r' → r ≡ r'
one_counts source line = one_answer

pub one_is_continuous : (source : Source) {r r' : Bool} → IsContinuous source r → IsContinuous source r' → r ≡ r'
one_is_continuous source = one_answer

pub one_record_message : (source : Source) {r r' : Message} → RecordMessage source r → RecordMessage source r' → r ≡ r'
one_record_message source = one_answer
