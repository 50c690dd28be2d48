-- `port::sent_up_to` meets its contract: at the end of the message the rate moves, before it the source stays. Assumes nothing.
use Prim.Native.Nat.{ℕ}
use mathlib.Core.Path.{refl, ap}
use borrow.Author.Tests.{eq-eqb, ne_eqb}
use Rattle.laws.proofs.Tests.{yes, no}
use Rattle.state.specs.declared.Source.{Source}
use Rattle.port.specs.declared.Port.{Port}
use Rattle.port.specs.Port.{moved_if}
use Rattle.port.proofs.sent_up_to.Goals as goal

-- the message at a place, beside a source
abbrev placed : Port → ℕ → Source → Port
placed p at s = record {
  source = s;
  message = record { bytes = p.message.bytes; len = p.message.len; at = at };
  last = p.last;
  waiting = p.waiting;
}

pub returns-then-at-p : goal.returns-then-at-p
unfolding moved_if
returns-then-at-p c =
    let a = c.args in
    ap (placed a.p a.at) (yes _ (eq-eqb _ _ c.if-at-p.true) refl)

pub returns-else-at-p : goal.returns-else-at-p
unfolding moved_if
returns-else-at-p c =
    let a = c.args in
    ap (placed a.p a.at) (no _ (ne_eqb _ _ c.if-at-p.false) refl)
