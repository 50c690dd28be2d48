-- One answer for each contract of this crate, and one collector left by the function that updates it in place. Assumes nothing.
use Prim.Native.Nat.{ℕ}
use mathlib.Core.Path.{◌≡◌}
use Rattle.laws.proofs.OneAnswer.{one_answer, one_outcome}
use Rattle.line.specs.declared.Line.{Line}
use Rattle.collector.specs.Clauses.{LineAfter, Answered, Collect, Lend}
use Rattle.collector.specs.declared.Collected.{Collected}
use Rattle.collector.specs.declared.Updated.{Updated}

pub one_line_after : (line : Line) (byte : ℕ) {r r' : Line} → LineAfter line byte r → LineAfter line byte r' → r ≡ r'
one_line_after line byte = one_answer

pub one_answered : (line : Line) (byte : ℕ) {r r' : Collected} → Answered line byte r → Answered line byte r' → r ≡ r'
one_answered line byte = one_answer

pub one_collect : (line : Line) (byte : ℕ) {r r' : Collected} {after after' : Line} →
    Collect line byte r after → Collect line byte r' after' → (r ≡ r') × (after ≡ after')
one_collect line byte = one_outcome

pub one_lend : (line : Line) (byte : ℕ) {r r' : Updated} → Lend line byte r → Lend line byte r' → r ≡ r'
one_lend line byte = one_answer
