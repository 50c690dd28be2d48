-- `line::one_byte` meets its contract: each arm is a case of `one_byte`, whose tests compute at the arm's byte. Assumes nothing.
use mathlib.Core.Path.{refl}
use borrow.Author.Tests.{ne_eqb}
use Rattle.laws.proofs.Tests.{at, no}
use Rattle.line.specs.Command.{one_byte}
use Rattle.line.proofs.one_byte.Goals as goal

pub returns-in-66 : goal.returns-in-66
unfolding one_byte
returns-in-66 c = at one_byte c.in-66.is refl

pub returns-in-67 : goal.returns-in-67
unfolding one_byte
returns-in-67 c = at one_byte c.in-67.is refl

pub returns-in-68 : goal.returns-in-68
unfolding one_byte
returns-in-68 c = at one_byte c.in-68.is refl

pub returns-in-71 : goal.returns-in-71
unfolding one_byte
returns-in-71 c = at one_byte c.in-71.is refl

pub returns-in-72 : goal.returns-in-72
unfolding one_byte
returns-in-72 c = at one_byte c.in-72.is refl

pub returns-in-78 : goal.returns-in-78
unfolding one_byte
returns-in-78 c = at one_byte c.in-78.is refl

pub returns-in-80 : goal.returns-in-80
unfolding one_byte
returns-in-80 c = at one_byte c.in-80.is refl

pub returns-in-86 : goal.returns-in-86
unfolding one_byte
returns-in-86 c = at one_byte c.in-86.is refl

pub returns-in-87 : goal.returns-in-87
unfolding one_byte
returns-in-87 c = at one_byte c.in-87.is refl

pub returns-in-88 : goal.returns-in-88
unfolding one_byte
returns-in-88 c = at one_byte c.in-88.is refl

pub returns-in-89 : goal.returns-in-89
unfolding one_byte
returns-in-89 c = at one_byte c.in-89.is refl

pub returns-in_default : goal.returns-in_default
unfolding one_byte
returns-in_default c =
    let r = c.in_default.in_default-own.rest in
    no _ (ne_eqb _ _ r.0.0.0.0.0.0.0.0.0.0.1)
    (no _ (ne_eqb _ _ r.0.0.0.0.0.0.0.0.0.1)
    (no _ (ne_eqb _ _ r.0.0.0.0.0.0.0.0.1)
    (no _ (ne_eqb _ _ r.0.0.0.0.0.0.0.1)
    (no _ (ne_eqb _ _ r.0.0.0.0.0.0.1)
    (no _ (ne_eqb _ _ r.0.0.0.0.0.1)
    (no _ (ne_eqb _ _ r.0.0.0.0.1)
    (no _ (ne_eqb _ _ r.0.0.0.1)
    (no _ (ne_eqb _ _ r.0.0.1)
    (no _ (ne_eqb _ _ r.0.1)
    (no _ (ne_eqb _ _ r.1) refl))))))))))
