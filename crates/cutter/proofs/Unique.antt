-- One answer for each contract of this crate, and one content of the memory lent to `cut`. Assumes nothing.
use Prim.Native.Nat.{ℕ}
use mathlib.Core.Bool.{Bool}
use mathlib.Core.List.{List}
use mathlib.Core.Path.{◌≡◌}
use Rattle.std.specs.Prelude.{Option}
use Rattle.laws.proofs.OneAnswer.{one_answer, one_outcome}
use Rattle.cutter.specs.Clauses.{NextEnd, CutterFresh, CutterIsValid, CutterEndIn, CutterHeld, CutterHold, CutterCut}
use Rattle.cutter.specs.declared.Cutter.{Cutter}
use Rattle.cutter.specs.declared.Cut.{Cut}

pub one_next_end : (stream : List ℕ) (lf : Bool) {r r' : Option ℕ} → NextEnd stream lf r → NextEnd stream lf r' → r ≡ r'
one_next_end stream lf = one_answer

pub one_fresh : {r r' : Cutter} → CutterFresh r → CutterFresh r' → r ≡ r'
one_fresh = one_answer

pub one_is_valid : (self : Cutter) {r r' : Bool} → CutterIsValid self r → CutterIsValid self r' → r ≡ r'
one_is_valid self = one_answer

pub one_end_in : (self : Cutter) (piece : List ℕ) {r r' : Option ℕ} → CutterEndIn self piece r → CutterEndIn self piece r' → r ≡ r'
one_end_in self piece = one_answer

pub one_held : (self : Cutter) (part : List ℕ) {r r' : Cutter} → CutterHeld self part r → CutterHeld self part r' → r ≡ r'
one_held self part = one_answer

pub one_hold : (self : Cutter) (piece : List ℕ) {r r' : Cut} → CutterHold self piece r → CutterHold self piece r' → r ≡ r'
one_hold self piece = one_answer

pub one_cut : (self : Cutter) (piece out : List ℕ) {r r' : Cut} {after after' : List ℕ} →
    CutterCut self piece out r after → CutterCut self piece out r' after' → (r ≡ r') × (after ≡ after')
one_cut self piece out = one_outcome
