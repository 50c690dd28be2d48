-- `driver::ports::received` meets its contract: its test is whether the collector's answer is an ended line. Assumes nothing.
use Rattle.std.proofs.Common.{sym, ap, ◌∙◌}
use borrow.Author.Tests.{not-true, not-false}
use Rattle.collector.specs.declared.Updated.{Updated}
use Rattle.connectors.specs.declared.ReceivedAt.{ReceivedAt}
use Rattle.connectors.specs.Connectors.{side_of, receive_at}
use Rattle.driver.proofs.Laws.{ended, joined}
use Rattle.driver.proofs.ports.received.Goals as goal

pub returns-then-not-answer : goal.returns-then-not-answer
returns-then-not-answer c =
    let a = c.args.served in
    let u = c.lend-updated.ensures in (
      joined a.connectors (side_of a.plug.number) _ _ (sym (ap (λ (x : Updated). x.answer.ended) u) ∙ not-true _ c.if-not-answer.true),
      ap (λ (x : Updated). x.line) u,
    )

pub returns : goal.returns
returns c =
    let a = c.args.served in
    let u = c.lend-updated.ensures in (
      ap (λ (x : ReceivedAt). x.connectors) c.receive-taken.ensures
          ∙ ap (λ (x : Updated). (receive_at a.connectors a.plug.number x.answer.line c.args.byte).connectors) u
          ∙ ended a.connectors (side_of a.plug.number) _ _ (sym (ap (λ (x : Updated). x.answer.ended) u) ∙ not-false _ c.if-not-answer.false),
      ap (λ (x : Updated). x.line) u,
    )
