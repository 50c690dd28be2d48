-- `hourheron::lay_taken` meets its contract, case by case. Assumes nothing.
use mathlib.Core.Path.{refl}
use Rattle.hourheron.specs.Takes.{take_in, take_left}
use Rattle.hourheron.proofs.lay_taken.Goals as goal

pub returns-in-Ok-Some : goal.returns-in-Ok-Some
unfolding take_in take_left
returns-in-Ok-Some c =
    let q = rw c.in-Ok-Some.is at c.in-Ok-Some.field-0-is in
    rw (c.in-Ok-Some.is, q) c.lay_reading.ensures

pub returns-in-Ok-None : goal.returns-in-Ok-None
unfolding take_in take_left
returns-in-Ok-None c =
    let q = rw c.in-Ok-None.is at c.in-Ok-None.field-0-is in
    rw (c.in-Ok-None.is, q) (record { answers = c.done.ensures; leaves = refl })

pub returns-in-Err : goal.returns-in-Err
unfolding take_in take_left
returns-in-Err c = rw c.in-Err.is (record { answers = c.refuse.ensures; leaves = refl })
