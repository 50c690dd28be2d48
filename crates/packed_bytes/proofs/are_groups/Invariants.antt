use Rattle.std.proofs.Common.{◌≡◌, ◌&&◌, drop}
use Rattle.digits.specs.Digits.{are_digits}
use Rattle.packed_bytes.proofs.are_groups.Given as goal

abbrev pub invariant-loop-byte : goal.invariant-loop-byte
invariant-loop-byte l = are_digits 64 64 l.s ≡ (l.all && are_digits 64 64 (drop l.byte-index l.s))
