use Rattle.std.proofs.Common.{◌≡◌, ◌*◌, ◌%◌, ◌^◌, ◌≤◌}
use Rattle.digits.proofs.held.Given as goal

abbrev pub invariant-loop-zeros : goal.invariant-loop-zeros
invariant-loop-zeros l = (l.width ≤ l.zeros) × (l.x ≡ 256 * (l.n % 10 ^ l.zeros))
