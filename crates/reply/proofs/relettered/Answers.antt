-- `reply::relettered` meets its contract: B and b become it; I and M stay. Assumes nothing.
use mathlib.Core.Path.{refl}
use Rattle.laws.proofs.Tests.{yes, no}
use Rattle.rules.specs.Does as table
use Rattle.reply.proofs.relettered.Goals as goal

pub returns-then-letter : goal.returns-then-letter
unfolding table.relettered
returns-then-letter c = yes _ c.if-letter.true refl

pub returns : goal.returns
unfolding table.relettered
returns c = no _ c.if-letter.false refl
