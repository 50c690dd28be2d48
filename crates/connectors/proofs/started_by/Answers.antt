-- `connectors::started_by` meets its contract. Assumes nothing.
use mathlib.Core.Path.{◌≡◌, refl, ap₂}
use Rattle.std.specs.Prelude.{Ok, Err}
use Rattle.laws.proofs.Tests.{never}
use Rattle.refusal.specs.Answer.{Verdict}
use Rattle.refusal.specs.declared.Refusal.{Refusal}
use Rattle.line.specs.declared.Line.{Line}
use Rattle.line.specs.Line.{blank}
use Rattle.connectors.specs.declared.Connectors.{Connectors}
use Rattle.connectors.specs.declared.Lines.{Lines}
use Rattle.connectors.specs.Connectors.{started_by}
use Rattle.connectors.proofs.started_by.Goals as goal

accepted : (v : Verdict) (new old : Connectors) (lines : Lines) {k l : Line} → v ≡ Ok tt → k ≡ blank → l ≡ blank →
    record { verdict = v; connectors = new; lines = record { camera = k; external = l } } ≡ started_by v new old lines
accepted (Ok tt) new old lines e f g = ap₂ (λ (x y : Line). record { verdict = Ok tt; connectors = new; lines = record { camera = x; external = y } }) f g
accepted (Err r) new old lines e f g = never cc

refused : (v : Verdict) (new old : Connectors) (lines : Lines) {r : Refusal} → v ≡ Err r → record { verdict = v; connectors = old; lines = lines } ≡ started_by v new old lines
refused (Ok tt) new old lines e = never cc
refused (Err x) new old lines e = refl

pub returns-in-Ok : goal.returns-in-Ok
returns-in-Ok c = accepted _ _ _ _ c.in-Ok.is c.blank.ensures c.blank-in-Ok.ensures

pub returns-in-Err : goal.returns-in-Err
returns-in-Err c = refused _ _ _ _ c.in-Err.is
