-- A start accepts the settings and the measurement of a lens in range, and `Tight` says that the bench lens is one. Assumes nothing.
use mathlib.Core.Bool.{true}
use mathlib.Core.Path.{◌≡◌, ap, ◌∙◌}
use Rattle.std.specs.Prelude.{Ok}
use Rattle.line.specs.declared.Line.{Line}
use Rattle.state.specs.declared.Source.{Source}
use Rattle.state.specs.State.{valid_source}
use Rattle.rules.specs.Tight.{bench}
use Rattle.rules.proofs.Tight.{tight}
use Rattle.rules.proofs.Valid.{valid_told}
use Rattle.port.specs.declared.Port.{Port}
use Rattle.port.specs.Port.{unit_of, start_of}
use Rattle.port.proofs.Promises.{leaves_new, start_verdict_lem}
use Rattle.port.proofs.Cases.{good_settings}
use Rattle.walk.specs.TightStart.{TightStart}

accepts : (old : Port) (l : Line) (s : Source) → valid_source s ≡ true → (start_of old l s.settings s.measurement).verdict ≡ Ok tt
accepts old l s v =
    let t = valid_told s v in
    start_verdict_lem old l s.settings s.measurement ∙ good_settings s.settings s.measurement t.settings ∙ t.measurement

pub tight_start : TightStart
unfolding unit_of
tight_start =
    let accepted : (old : Port) (l : Line) → (start_of old l bench.settings bench.measurement).verdict ≡ Ok tt = λ old l. accepts old l bench tight.good.valid in
    record { accepted = accepted; leaves = λ old l. ap (λ (p : Port). p.source) (leaves_new old l bench.settings bench.measurement (accepted old l)).0 }
