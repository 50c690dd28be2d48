-- The lens of which `Tight` shows that no bound of demand 3 is too large is one that a start leaves: that of document 01's session program, which is
-- accepted. So the same is shown of what every driver may hold. Statements only.
use Rattle.std.specs.Prelude.{◌≡◌, Ok}
use Rattle.bench_lens.specs.Bench.{bench_settings, bench_measurement}
use Rattle.line.specs.declared.Line.{Line}
use Rattle.rules.specs.Tight.{bench}
use Rattle.port.specs.declared.Port.{Port}
use Rattle.port.specs.Port.{start_of}

pub record TightStart : Type 0 where
  pub accepted : (old : Port) (l : Line) → (start_of old l (bench_settings 0x49) bench_measurement).verdict ≡ Ok tt
  pub leaves : (old : Port) (l : Line) → (start_of old l (bench_settings 0x49) bench_measurement).port.source ≡ bench
