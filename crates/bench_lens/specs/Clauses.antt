-- What each public function promises: its answer.
use Rattle.std.specs.Prelude.{ℕ, List, ◌≡◌}
use Rattle.fixed.specs.declared.Settings.{Settings}
use Rattle.units.specs.declared.Measurement.{Measurement}
use Rattle.bench_lens.specs.Bench.{letter_of, bench_settings, bench_measurement}

abbrev pub LetterOf : List ℕ → ℕ → Type 0
LetterOf word r = r ≡ letter_of word

abbrev pub BenchSettings : ℕ → Settings → Type 0
BenchSettings letter r = r ≡ bench_settings letter

abbrev pub BenchMeasurement : Measurement → Type 0
BenchMeasurement r = r ≡ bench_measurement
