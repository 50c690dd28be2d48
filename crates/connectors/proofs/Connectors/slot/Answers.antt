-- `Connectors::slot` meets its contract: the named port's slot, or 12. Assumes nothing.
use mathlib.Core.Path.{refl, sym, ◌∙◌}
use Rattle.laws.proofs.Tests.{at}
use Rattle.port.specs.declared.Slotted.{Slotted}
use Rattle.port.specs.Port.{slot_of}
use Rattle.connectors.specs.declared.Connectors.{Connectors}
use Rattle.connectors.specs.declared.SlottedAt.{SlottedAt}
use Rattle.connectors.specs.Connectors.{slot_in}
use Rattle.connectors.proofs.Laws.{named_port}
use Rattle.connectors.proofs.Connectors.slot.Goals as goal

abbrev of : Slotted → Connectors → SlottedAt
of x b = record { sent = x.sent; connectors = b }

pub returns : goal.returns
unfolding slot_in
returns c =
    let b = c.args.self in
    at (slot_in b) (sym c.side_of.ensures ∙ c.in-Some.is)
    (named_port of (λ (x : Slotted). x.port) slot_of b c.in-Some.side c.with_port.ensures c.slot-slotted.ensures c.port_at.ensures)

pub returns-in_default : goal.returns-in_default
unfolding slot_in
returns-in_default c =
    at (slot_in c.args.self) (sym c.side_of.ensures ∙ c.in_default.is) refl
