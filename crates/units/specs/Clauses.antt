-- What each public function promises: its answer.
use Rattle.std.specs.Prelude.{ℕ, List, ◌≡◌, ℤ}
use Rattle.refusal.specs.Answer.{Answer, Verdict}
use Rattle.record.specs.declared.Record.{Record}
use Rattle.units.specs.Units.{conversion}
use Rattle.units.specs.Measurement.{measurement_verdict, record_in}
use Rattle.units.specs.declared.Measurement.{Measurement}

abbrev pub Convert : ℕ → ℤ → ℕ → ℕ → Answer ℤ → Type 0
Convert field number unit wanted r = r ≡ conversion field number unit wanted

abbrev pub CheckMeasurement : Measurement → Verdict → Type 0
CheckMeasurement m r = r ≡ measurement_verdict m

abbrev pub RecordOf : Measurement → ℕ → List ℕ → Record → Type 0
RecordOf m display serial r = r ≡ record_in display m serial
