-- What each public function promises leaves one answer, and one content of lent memory. Assumes nothing.
use Prim.Native.Nat.{ℕ}
use mathlib.Core.Bool.{Bool}
use mathlib.Core.List.{List}
use mathlib.Core.Path.{◌≡◌}
use Rattle.std.specs.Prelude.{Option}
use Rattle.laws.proofs.OneAnswer.{one_answer}
use Rattle.stop.specs.Clauses.{StopOk, PutStopText, ReadStopText, PutStopPair, ReadStop, ReadTenth}

pub one_stop_ok : (stop : ℕ) {r r' : Bool} → StopOk stop r → StopOk stop r' → r ≡ r'
one_stop_ok stop = one_answer

pub one_put_stop_text : (out : List ℕ) (at stop : ℕ) {after after' : List ℕ} →
    PutStopText out at stop after → PutStopText out at stop after' → after ≡ after'
one_put_stop_text out at stop = one_answer

pub one_read_stop_text : (s : List ℕ) {r r' : Option ℕ} → ReadStopText s r → ReadStopText s r' → r ≡ r'
one_read_stop_text s = one_answer

pub one_put_stop_pair : (out : List ℕ) (at stop tenth : ℕ) {after after' : List ℕ} →
    PutStopPair out at stop tenth after → PutStopPair out at stop tenth after' → after ≡ after'
one_put_stop_pair out at stop tenth = one_answer

pub one_read_stop : (a b : ℕ) {r r' : Option ℕ} → ReadStop a b r → ReadStop a b r' → r ≡ r'
one_read_stop a b = one_answer

pub one_read_tenth : (b : ℕ) {r r' : Option ℕ} → ReadTenth b r → ReadTenth b r' → r ≡ r'
one_read_tenth b = one_answer
