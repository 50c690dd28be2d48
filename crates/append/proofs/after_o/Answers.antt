-- `append::after_o` meets its contract: each arm is a case of `after_o`, whose tests compute at the arm's byte. Assumes nothing.
use mathlib.Core.Path.{refl, ap}
use borrow.Author.Tests.{ne_eqb}
use Rattle.std.specs.Prelude.{Some}
use Rattle.laws.proofs.Tests.{at, no}
use Rattle.append.specs.Append.{after_o}
use Rattle.append.proofs.after_o.Goals as goal

pub returns-in-67 : goal.returns-in-67
unfolding after_o
returns-in-67 c = at after_o c.in-67.is (ap Some c.empty.ensures)

pub returns-in-72 : goal.returns-in-72
unfolding after_o
returns-in-72 c = at after_o c.in-72.is (ap Some c.empty-in-72.ensures)

pub returns-in_default : goal.returns-in_default
unfolding after_o
returns-in_default c =
    let r = c.in_default.in_default-own.rest in
    no _ (ne_eqb _ _ r.0.1) (no _ (ne_eqb _ _ r.1) refl)
