-- `port::check_start` meets its contract: 8, then the verdict on the measurement. Assumes nothing.
use Prim.Native.Nat.{ℕ}
use mathlib.Core.Path.{sym, ap, ◌∙◌}
use borrow.Author.Tests.{eq-eqb, ne_eqb}
use Rattle.std.specs.Prelude.{Err}
use Rattle.laws.proofs.Tests.{yes, no}
use Rattle.refusal.specs.declared.Refusal.TheVariants as refusal
use Rattle.codec.proofs.Lowest.{some_named, none_named}
use Rattle.port.specs.Port.{start_verdict}
use Rattle.port.proofs.check_start.Goals as goal

pub returns-in-Some : goal.returns-in-Some
unfolding start_verdict
returns-in-Some c =
    let n = some_named _ (sym c.lowest_setting.ensures ∙ c.in-Some.is) in
    no _ (ne_eqb _ 0 (λ z. n.1 (n.0 ∙ z))) (ap (λ (i : ℕ). Err (refusal.Setting i)) n.0)

pub returns : goal.returns
unfolding start_verdict
returns c = yes _ (eq-eqb _ 0 (none_named _ (sym c.lowest_setting.ensures ∙ c.in_default.is))) c.check_measurement.ensures
