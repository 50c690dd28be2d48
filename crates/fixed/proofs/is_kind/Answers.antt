-- `fixed::is_kind` meets its contract. Assumes nothing.
use Rattle.std.proofs.Common.{arith}
use Rattle.fixed.specs.Fixed.{kind_ok}
use Rattle.fixed.proofs.is_kind.Goals as goal

pub returns-in-80 : goal.returns-in-80
unfolding kind_ok
returns-in-80 c = grind arith

pub returns-in_default : goal.returns-in_default
unfolding kind_ok
returns-in_default c = grind arith
