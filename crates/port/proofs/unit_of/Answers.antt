-- `port::unit_of` meets its contract. Assumes nothing.
use mathlib.Core.Path.{refl}
use Rattle.laws.proofs.Tests.{yes, no}
use Rattle.port.specs.Port.{unit_of}
use Rattle.port.proofs.unit_of.Goals as goal

pub returns-then-letter : goal.returns-then-letter
unfolding unit_of
returns-then-letter c = yes _ c.if-letter.true refl

pub returns : goal.returns
unfolding unit_of
returns c = no _ c.if-letter.false refl
