-- `telling::put_slots` meets its contract: before each turn the slots so far are printed, and those to come make the rest of the line. Assumes nothing.
use mathlib.Core.Path.{◌≡◌, refl}
use native.Mathlib.Omega.{arith}
use Rattle.printed.proofs.Laws.{at_start, as_long_lem, one_more, all_told, all_run}
use Rattle.telling.proofs.put_slots.Goals as goal

pub loop-left-init : goal.loop-left-init
loop-left-init c = let a = c.args in at_start a.out.now a.port a.count

pub overflow_add-at : goal.overflow_add-at
overflow_add-at c =
    let i = c.loop-left.invariant in
    omega (arith, i.place, i.few, c.requires, c.well_formed)

pub overflow_add-at-in-loop-left : goal.overflow_add-at-in-loop-left
overflow_add-at-in-loop-left c =
    let i = c.loop-left.invariant in
    omega (arith, i.place, i.few, c.requires, c.well_formed)

pub loop-left-preserved : goal.loop-left-preserved
loop-left-preserved c =
    one_more c.loop-left.invariant c.slot-slotted.result c.loop-left-test.true c.requires c.slot-slotted.ensures refl
    c.put_slot.ensures (rw c.separator.ensures at c.put_byte.ensures)

pub shape_of-out : goal.shape_of-out
shape_of-out c = as_long_lem c.loop-left.invariant

pub returns : goal.returns
returns c =
    let i = c.loop-left.invariant in
    let z : c.loop-left.left ≡ 0 = omega arith in
    record { port = all_run i z; text = all_told i z }
