-- `reply::is_n` meets its contract: N, or one of the seventeen others. Assumes nothing.
use mathlib.Core.Path.{refl, sym}
use Rattle.laws.proofs.Tests.{at}
use Rattle.rules.specs.Does.{is_n}
use Rattle.rules.proofs.Rows.{not_n}
use Rattle.reply.proofs.is_n.Goals as goal

pub returns-in-N : goal.returns-in-N
unfolding is_n
returns-in-N c = at is_n c.in-N.is refl

pub returns-in_default : goal.returns-in_default
returns-in_default c = sym (not_n c.args.command c.in_default.not-N)
