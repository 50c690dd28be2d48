-- `Port::start` meets its contract: by the verdict. Assumes nothing.
use mathlib.Core.Path.{refl, sym, ◌∙◌}
use Rattle.std.specs.Prelude.{Ok}
use Rattle.laws.proofs.Tests.{at}
use Rattle.refusal.specs.Answer.{Verdict}
use Rattle.port.specs.Port.{handed, started_port, started_by, start_of}
use Rattle.port.proofs.Port.start.Goals as goal

pub returns-in-Ok : goal.returns-in-Ok
unfolding start_of handed
returns-in-Ok c =
    let a = c.args in
    at (λ (v : Verdict). started_by v (started_port a.settings a.measurement) a.old a.line) (sym c.check_start.ensures ∙ c.in-Ok.is)
    (λ i. record { verdict = Ok tt; port = c.started_with.ensures i; line = c.blank.ensures i })

pub returns-in-Err : goal.returns-in-Err
unfolding start_of handed
returns-in-Err c =
    let a = c.args in
    at (λ (v : Verdict). started_by v (started_port a.settings a.measurement) a.old a.line) (sym c.check_start.ensures ∙ c.in-Err.is) refl
