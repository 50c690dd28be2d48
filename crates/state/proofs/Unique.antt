-- One answer each: two answers that meet the contract of a public function are equal. Assumes nothing.
use mathlib.Core.Bool.{Bool}
use mathlib.Core.Path.{◌≡◌}
use Rattle.laws.proofs.OneAnswer.{one_answer}
use Rattle.state.specs.Clauses.{ValidMessage, ValidSource}
use Rattle.state.specs.declared.Message.{Message}
use Rattle.state.specs.declared.Source.{Source}

pub one_valid_message : (m : Message) {r r' : Bool} → ValidMessage m r → ValidMessage m r' → r ≡ r'
one_valid_message m = one_answer

pub one_valid_source : (s : Source) {r r' : Bool} → ValidSource s r → ValidSource s r' → r ≡ r'
one_valid_source s = one_answer
