-- `driver::ports::sent` meets its contract: a fill counts no more bytes than the buffer holds, and the slots run are all of the buffer's or as many as
-- bytes were taken. Assumes nothing.
use Rattle.std.proofs.Common.{ℕ, ◌≤◌, ◌≡◌, sym, subst, arith}
use lib.Seq.{length-take-le}
use Rattle.connectors.specs.declared.FilledAt.{FilledAt}
use Rattle.connectors.specs.declared.Connectors.{Connectors}
use Rattle.connectors.specs.Connectors.{side_of, fill_at}
use Rattle.driver.proofs.Laws.{at_most}
use Rattle.driver.proofs.ports.sent.Goals as goal

within : (b : Connectors) (n room : ℕ) (r : FilledAt) → r ≡ fill_at b n room → r.count ≤ room
within b n room r e = subst (λ (x : FilledAt). x.count ≤ room) (sym e) (at_most b (side_of n) room)

pub slice_bounds-put-end : goal.slice_bounds-put-end
slice_bounds-put-end g c = omega (arith, within _ _ _ _ c.fill-filled.ensures.answers, c.fill-filled.auto.out)

pub slice_bounds-put-end-2 : goal.slice_bounds-put-end-2
slice_bounds-put-end-2 g c = sym (length-take-le _ _ (omega (arith, within _ _ _ _ c.fill-filled.ensures.answers, c.fill-filled.auto.out)))
