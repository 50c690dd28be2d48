-- One answer, and one content of lent memory, for each contract of this crate. Assumes nothing.
use Prim.Native.Nat.{ℕ}
use mathlib.Core.Bool.{Bool}
use mathlib.Core.List.{List}
use mathlib.Core.Path.{◌≡◌}
use Rattle.laws.proofs.OneAnswer.{one_answer, one_outcome}
use Rattle.refusal.specs.Answer.{Answer}
use Rattle.connectors.specs.declared.Side.{Side}
use Rattle.telling.specs.declared.Run.{Run}
use Rattle.runs.specs.Clauses.{EventAt, RunsStart, RunsRunAt, RunsIsValid, RunsIsOver, RunsTell, RunsCount}
use Rattle.runs.specs.declared.Addressed.{Addressed}
use Rattle.runs.specs.declared.Runs.{Runs}
use Rattle.runs.specs.declared.BegunBoth.{BegunBoth}
use Rattle.runs.specs.declared.ToldAt.{ToldAt}

pub one_event_at : (ports : Bool) (line : List ℕ) {r r' : Addressed} → EventAt ports line r → EventAt ports line r' → r ≡ r'
one_event_at ports line = one_answer

pub one_start : (letter : ℕ) {r r' : BegunBoth} → RunsStart letter r → RunsStart letter r' → r ≡ r'
one_start letter = one_answer

pub one_run_at : (self : Runs) (side : Side) {r r' : Run} → RunsRunAt self side r → RunsRunAt self side r' → r ≡ r'
one_run_at self side = one_answer

pub one_is_valid : (self : Runs) {r r' : Bool} → RunsIsValid self r → RunsIsValid self r' → r ≡ r'
one_is_valid self = one_answer

pub one_is_over : (self : Runs) {r r' : Bool} → RunsIsOver self r → RunsIsOver self r' → r ≡ r'
one_is_over self = one_answer

pub one_tell : (self : Runs) (addressed : Addressed) (out : List ℕ) {r r' : ToldAt} {after after' : List ℕ} →
    RunsTell self addressed out r after → RunsTell self addressed out r' after' → (r ≡ r') × (after ≡ after')
one_tell self addressed out = one_outcome

pub one_count : (self : Runs) (out : List ℕ) {r r' : Answer ℕ} {after after' : List ℕ} → RunsCount self out r after → RunsCount self out r' after' → (r ≡ r') × (after ≡ after')
one_count self out = one_outcome
