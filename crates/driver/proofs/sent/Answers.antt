-- `driver::sent` is safe: a fill counts no more bytes than the buffer holds. Assumes nothing.
use Rattle.std.proofs.Common.{ℕ, ◌≤◌, ◌≡◌, sym, subst, arith}
use lib.Seq.{length-take-le}
use Rattle.port.specs.declared.Port.{Port}
use Rattle.fill.specs.declared.Filled.{Filled}
use Rattle.fill.specs.Fill.{fill_of}
use Rattle.fill.proofs.Promises.{promised}
use Rattle.driver.proofs.sent.Goals as goal

within : (p : Port) (room : ℕ) (r : Filled) → r ≡ fill_of p room → r.count ≤ room
within p room r e = subst (λ (x : Filled). x.count ≤ room) (sym e) (promised.at_most p room)

pub slice_bounds-write_all-end : goal.slice_bounds-write_all-end
slice_bounds-write_all-end g c = omega (arith, within _ _ _ c.fill-filled.ensures.answers, c.fill-filled.auto.out)

pub slice_bounds-write_all-end-2 : goal.slice_bounds-write_all-end-2
slice_bounds-write_all-end-2 g c = sym (length-take-le _ _ (omega (arith, within _ _ _ c.fill-filled.ensures.answers, c.fill-filled.auto.out)))
