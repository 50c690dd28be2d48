-- `reply::ready` meets its contract: by whether the command is N. Assumes nothing.
use mathlib.Core.Bool.{Bool, cond}
use mathlib.Core.List.{[], ◌∷◌}
use mathlib.Core.Path.{sym, ◌∙◌}
use Rattle.laws.proofs.Tests.{at}
use Rattle.fixed.specs.Form.{fixed_form}
use Rattle.state.specs.declared.Source.{Source}
use Rattle.rules.specs.Does.{with_modes, running_now, replies, readies}
use Rattle.reply.specs.Reply.{acted_of}
use Rattle.reply.specs.declared.Acted.{Acted}
use Rattle.reply.proofs.ready.Goals as goal

-- the answer by the test
abbrev answers : Source → Bool → Acted
answers s n = acted_of (cond n (replies (with_modes s (running_now s.modes)) (fixed_form.print s.settings.fixed)) (replies s (60 ∷ [])))

pub returns-then-is_n : goal.returns-then-is_n
unfolding readies
returns-then-is_n c = at (answers c.args.source) (sym c.is_n.ensures ∙ c.if-is_n.true) c.woken.ensures

pub returns : goal.returns
unfolding readies
returns c = at (answers c.args.source) (sym c.is_n.ensures ∙ c.if-is_n.false) c.answer.ensures
