-- `Connectors::fill` meets its contract: the named port's fill, or 12. Assumes nothing.
use mathlib.Core.Path.{refl, sym, ap, ◌∙◌}
use lib.ListN.{length}
use Rattle.std.specs.Prelude.{Option}
use Rattle.laws.proofs.Tests.{at}
use Rattle.port.specs.declared.Port.{Port}
use Rattle.fill.specs.declared.Filled.{Filled}
use Rattle.fill.specs.Fill.{fill_of, fill_leaves}
use Rattle.connectors.specs.declared.Side.{Side}
use Rattle.connectors.specs.declared.Connectors.{Connectors}
use Rattle.connectors.specs.declared.FilledAt.{FilledAt}
use Rattle.connectors.specs.Connectors.{fill_in, fill_leaves_in}
use Rattle.connectors.proofs.Laws.{named_port}
use Rattle.connectors.proofs.Connectors.fill.Goals as goal

abbrev of : Filled → Connectors → FilledAt
of x b = record { verdict = x.verdict; count = x.count; connectors = b }

pub returns : goal.returns
unfolding fill_in fill_leaves_in
returns c =
    let a = c.args in
    let out = a.out.now in
    let named = sym c.side_of.ensures ∙ c.in-Some.is in
    record {
      answers =
          at (λ (m : Option Side). fill_in a.self m (length out)) named
          (named_port of (λ (f : Filled). f.port) (λ (q : Port). fill_of q (length out)) a.self c.in-Some.side
          c.with_port.ensures c.fill-filled.ensures.answers c.port_at.ensures);
      leaves = at (λ (m : Option Side). fill_leaves_in a.self m out) named (c.fill-filled.ensures.leaves ∙ ap (λ (q : Port). fill_leaves q out) c.port_at.ensures);
    }

pub returns-in_default : goal.returns-in_default
unfolding fill_in fill_leaves_in
returns-in_default c =
    let a = c.args in
    let out = a.out.now in
    let named = sym c.side_of.ensures ∙ c.in_default.is in
    record {
      answers = at (λ (m : Option Side). fill_in a.self m (length out)) named refl;
      leaves = at (λ (m : Option Side). fill_leaves_in a.self m out) named refl;
    }
