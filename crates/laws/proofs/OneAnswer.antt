-- One answer for one contract: two answers that meet it are equal, and so is what they leave in lent memory. Assumes nothing.
use mathlib.Core.Path.{◌≡◌, sym, ◌∙◌}
use Rattle.laws.specs.Gives.{Gives}

-- a contract of the form `r ≡ definition`
pub one_answer : {R : Type 0} {answer r r' : R} → r ≡ answer → r' ≡ answer → r ≡ r'
one_answer p q = p ∙ sym q

-- a contract that speaks of lent memory too
pub one_outcome : {R M : Type 0} {answer : R} {memory : M} {r r' : R} {after after' : M} →
    Gives answer memory r after → Gives answer memory r' after' → (r ≡ r') × (after ≡ after')
one_outcome p q = (one_answer p.answers q.answers, one_answer p.leaves q.leaves)
