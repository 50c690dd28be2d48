-- What each public function promises leaves one answer, and one content of lent memory. Assumes nothing.
use Prim.Native.Nat.{ℕ}
use mathlib.Core.List.{List}
use mathlib.Core.Path.{◌≡◌}
use Rattle.laws.proofs.OneAnswer.{one_answer}
use Rattle.record.specs.declared.Figures.{Figures}
use Rattle.record.specs.declared.Record.{Record}
use Rattle.serial.specs.Clauses.{PutSerial, NineOf, RecordFrom}

pub one_put_serial : (out : List ℕ) (at : ℕ) (text : List ℕ) {after after' : List ℕ} →
    PutSerial out at text after → PutSerial out at text after' → after ≡ after'
one_put_serial out at text = one_answer

pub one_nine_of : (s : List ℕ) {r r' : List ℕ} → NineOf s r → NineOf s r' → r ≡ r'
one_nine_of s = one_answer

pub one_record_from : (figures : Figures) (text : List ℕ) {r r' : Record} → RecordFrom figures text r → RecordFrom figures text r' → r ≡ r'
one_record_from figures text = one_answer
