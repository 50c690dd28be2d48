-- `reply::unknown` meets its contract: by the inhibit mode. Assumes nothing.
use mathlib.Core.Bool.{Bool, cond}
use mathlib.Core.List.{[], ◌∷◌}
use Rattle.laws.proofs.Tests.{at}
use Rattle.state.specs.declared.Source.{Source}
use Rattle.rules.specs.Does.{replies, silent, runs}
use Rattle.reply.specs.Reply.{acted_of}
use Rattle.reply.specs.declared.Acted.{Acted}
use Rattle.reply.proofs.unknown.Goals as goal

-- the answer by the mode
abbrev answers : Source → Bool → Acted
answers s inhibit = acted_of (cond inhibit (silent s) (replies s (63 ∷ [])))

pub returns-then-source : goal.returns-then-source
unfolding runs
returns-then-source c = at (answers c.args.source) c.if-source.true c.silent.ensures

pub returns : goal.returns
unfolding runs
returns c = at (answers c.args.source) c.if-source.false c.answer.ensures
