-- `telling::Run::tell` meets its contract: 16, then the run's end, then by the event. Assumes nothing.
use Rattle.telling.proofs.Laws.{tell_16, tell_over, tell_on}
use Rattle.telling.proofs.Run.tell.Goals as goal

pub returns-then-not-is_valid : goal.returns-then-not-is_valid
returns-then-not-is_valid c = let a = c.args in tell_16 a.self a.event a.out.now (cc)

pub returns-then-is_over : goal.returns-then-is_over
returns-then-is_over c = let a = c.args in tell_over a.self a.event a.out.now (cc) (cc)

pub returns-in-Received : goal.returns-in-Received
returns-in-Received c = let a = c.args in rw c.in-Received.is (tell_on a.self _ a.out.now (cc) (cc) c.tell_received.ensures)

pub returns-in-Slots : goal.returns-in-Slots
returns-in-Slots c = let a = c.args in rw c.in-Slots.is (tell_on a.self _ a.out.now (cc) (cc) c.tell_slots.ensures)

pub returns-in-Measured : goal.returns-in-Measured
returns-in-Measured c = let a = c.args in rw c.in-Measured.is (tell_on a.self _ a.out.now (cc) (cc) c.tell_measured.ensures)

pub returns-in-Other : goal.returns-in-Other
returns-in-Other c = let a = c.args in rw c.in-Other.is (tell_on a.self _ a.out.now (cc) (cc) c.tell_other.ensures)
