-- `port::rest` meets its contract: rules 3 and 4. Assumes nothing.
use mathlib.Core.Path.{refl, sym, ◌∙◌}
use Rattle.laws.proofs.Tests.{yes, no}
use Rattle.port.specs.Port.{rest_of}
use Rattle.port.proofs.rest.Goals as goal

pub returns-then-is_continuous : goal.returns-then-is_continuous
unfolding rest_of
returns-then-is_continuous c =
    yes _ (sym c.is_continuous.ensures ∙ c.if-is_continuous.true) c.begin_record.ensures

pub returns : goal.returns
unfolding rest_of
returns c = no _ (sym c.is_continuous.ensures ∙ c.if-is_continuous.false) refl
