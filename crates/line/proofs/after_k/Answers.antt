-- `line::after_k` meets its contract: each arm is a case of `after_k`, whose tests compute at the arm's byte. Assumes nothing.
use mathlib.Core.Path.{refl}
use borrow.Author.Tests.{ne_eqb}
use Rattle.laws.proofs.Tests.{at, no}
use Rattle.line.specs.Command.{after_k}
use Rattle.line.proofs.after_k.Goals as goal

pub returns-in-97 : goal.returns-in-97
unfolding after_k
returns-in-97 c = at after_k c.in-97.is refl

pub returns-in-99 : goal.returns-in-99
unfolding after_k
returns-in-99 c = at after_k c.in-99.is refl

pub returns-in-100 : goal.returns-in-100
unfolding after_k
returns-in-100 c = at after_k c.in-100.is refl

pub returns-in-51 : goal.returns-in-51
unfolding after_k
returns-in-51 c = at after_k c.in-51.is refl

pub returns-in-52 : goal.returns-in-52
unfolding after_k
returns-in-52 c = at after_k c.in-52.is refl

pub returns-in_default : goal.returns-in_default
unfolding after_k
returns-in_default c =
    let r = c.in_default.in_default-own.rest in
    no _ (ne_eqb _ _ r.0.0.0.0.1)
    (no _ (ne_eqb _ _ r.0.0.0.1)
    (no _ (ne_eqb _ _ r.0.0.1)
    (no _ (ne_eqb _ _ r.0.1)
    (no _ (ne_eqb _ _ r.1) refl))))
