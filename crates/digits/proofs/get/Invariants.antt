use Rattle.std.proofs.Common.{◌≡◌, ◌^◌, ◌<◌, drop}
use Rattle.digits.specs.Digits.{read_digits}
use Rattle.digits.proofs.Laws.{onward}
use Rattle.digits.proofs.get.Given as goal

abbrev pub invariant-loop-byte : goal.invariant-loop-byte
invariant-loop-byte l =
    (l.v < l.base ^ l.byte-index) × (read_digits l.base l.off l.top l.s ≡ onward l.base l.off l.top l.v (drop l.byte-index l.s))
