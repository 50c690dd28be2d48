-- One answer each: two answers that meet the contract of a public function are equal. Assumes nothing.
use Prim.Native.Nat.{ℕ}
use mathlib.Core.List.{List}
use mathlib.Core.Path.{◌≡◌}
use Rattle.laws.proofs.OneAnswer.{one_answer}
use Rattle.fixed.specs.declared.Settings.{Settings}
use Rattle.units.specs.declared.Measurement.{Measurement}
use Rattle.bench_lens.specs.Clauses.{LetterOf, BenchSettings, BenchMeasurement}

pub one_letter_of : (word : List ℕ) {r r' : ℕ} → LetterOf word r → LetterOf word r' → r ≡ r'
one_letter_of word = one_answer

pub one_bench_settings : (letter : ℕ) {r r' : Settings} → BenchSettings letter r → BenchSettings letter r' → r ≡ r'
one_bench_settings letter = one_answer

pub one_bench_measurement : {r r' : Measurement} → BenchMeasurement r → BenchMeasurement r' → r ≡ r'
one_bench_measurement = one_answer
