-- `Port::slot` meets its contract: 16, the message under way, then the rules. Assumes nothing.
use mathlib.Core.Path.{refl, sym, ◌∙◌}
use native.Mathlib.Omega.{arith}
use borrow.Author.Tests.{lt-ltb, le-ltb}
use Rattle.laws.proofs.Tests.{yes, no}
use Rattle.port.specs.Port.{slot_of}
use Rattle.port.proofs.Valid.{message_valid, message_low}
use Rattle.port.proofs.Port.slot.Goals as goal

pub returns-then-not-is_valid : goal.returns-then-not-is_valid
unfolding slot_of
returns-then-not-is_valid c = no _ (sym c.is_valid.ensures ∙ c.if-not-is_valid.true) refl

pub send_from-sent-requires : goal.send_from-sent-requires
send_from-sent-requires c =
    let p = c.args.self in
    omega (arith, message_low p.message (message_valid p (sym c.is_valid.ensures ∙ c.if-not-is_valid.false)))

pub returns-then-at-self : goal.returns-then-at-self
unfolding slot_of
returns-then-at-self c =
    yes _ (sym c.is_valid.ensures ∙ c.if-not-is_valid.false) (yes _ (lt-ltb _ _ c.if-at-self.true) c.send_from-sent.ensures)

pub returns : goal.returns
unfolding slot_of
returns c = yes _ (sym c.is_valid.ensures ∙ c.if-not-is_valid.false) (no _ (le-ltb _ _ c.if-at-self.false) c.choose-chosen.ensures)
