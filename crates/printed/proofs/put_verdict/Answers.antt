-- `printed::put_verdict` meets its contract: what is done prints nothing. Assumes nothing.
use Rattle.printed.proofs.Laws.{prints_none}
use Rattle.printed.proofs.put_verdict.Goals as goal

pub returns-in-Ok : goal.returns-in-Ok
returns-in-Ok c = rw c.in-Ok.is (prints_none c.args.out.now)
