-- `units::check_measurement` meets its contract: the letter, then the lowest field. Assumes nothing.
use Prim.Native.Nat.{ℕ}
use mathlib.Core.Path.{refl, sym, ap, ◌∙◌}
use borrow.Author.Tests.{eq-eqb, ne_eqb}
use Rattle.std.specs.Prelude.{Err}
use Rattle.laws.proofs.Tests.{yes, no}
use Rattle.refusal.specs.Answer.{Verdict}
use Rattle.refusal.specs.declared.Refusal.TheVariants.{Field}
use Rattle.codec.proofs.Lowest.{some_named, none_named}
use Rattle.units.specs.Measurement.{measurement_verdict}
use Rattle.units.proofs.check_measurement.Goals as goal

pub returns-then-not-is_unit : goal.returns-then-not-is_unit
unfolding measurement_verdict
returns-then-not-is_unit c = no _ (sym c.is_unit.ensures ∙ c.if-not-is_unit.true) refl

pub returns-in-Some : goal.returns-in-Some
unfolding measurement_verdict
returns-in-Some c =
    let found = some_named _ (sym c.lowest_of.ensures ∙ c.in-Some.is) in
    yes _ (sym c.is_unit.ensures ∙ c.if-not-is_unit.false)
    (no _ (ne_eqb _ 0 (λ e. found.1 (found.0 ∙ e))) (ap {B = Verdict} (λ (n : ℕ). Err (Field n)) found.0))

pub returns : goal.returns
unfolding measurement_verdict
returns c =
    yes _ (sym c.is_unit.ensures ∙ c.if-not-is_unit.false)
    (yes _ (eq-eqb _ 0 (none_named _ (sym c.lowest_of.ensures ∙ c.in_default.is))) refl)
