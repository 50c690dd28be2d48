use Rattle.printed.proofs.Laws.{At}
use Rattle.telling.proofs.put_slots.Given as goal

abbrev pub invariant-loop-left : goal.invariant-loop-left
invariant-loop-left l = At l.initial.out l.initial.now l.initial.left l.out l.now l.left l.at
