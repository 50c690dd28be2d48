-- One answer for each contract of this crate. Assumes nothing.
use Prim.Native.Nat.{ℕ}
use mathlib.Core.List.{List}
use mathlib.Core.Path.{◌≡◌}
use lib.IntN.{ℤ}
use Rattle.laws.proofs.OneAnswer.{one_answer}
use Rattle.refusal.specs.Answer.{Answer, Verdict}
use Rattle.record.specs.declared.Record.{Record}
use Rattle.units.specs.Clauses.{Convert, CheckMeasurement, RecordOf}
use Rattle.units.specs.declared.Measurement.{Measurement}

pub one_convert : (field : ℕ) (number : ℤ) (unit wanted : ℕ) {r r' : Answer ℤ} →
    Convert field number unit wanted r → Convert field number unit wanted r' → r ≡ r'
one_convert field number unit wanted = one_answer

pub one_check_measurement : (m : Measurement) {r r' : Verdict} → CheckMeasurement m r → CheckMeasurement m r' → r ≡ r'
one_check_measurement m = one_answer

pub one_record_of : (m : Measurement) (display : ℕ) (serial : List ℕ) {r r' : Record} →
    RecordOf m display serial r → RecordOf m display serial r' → r ≡ r'
one_record_of m display serial = one_answer
