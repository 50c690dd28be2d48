use Rattle.std.proofs.Common.{◌≡◌, ◌^◌, ◌<◌, drop}
use Rattle.packed_bytes.specs.Bytes.{sixes}
use Rattle.packed_bytes.proofs.Laws.{onward}
use Rattle.packed_bytes.proofs.number_in.Given as goal

abbrev pub invariant-loop-byte : goal.invariant-loop-byte
invariant-loop-byte l = (l.n < 64 ^ l.byte-index) × (sixes l.s ≡ onward l.n (drop l.byte-index l.s))
