-- `capture::whole_of` meets its contract: the first byte tells whether there is a minus. Assumes nothing.
use mathlib.Core.List.{[], ◌∷◌}
use mathlib.Core.Path.{◌∙◌}
use Rattle.std.proofs.lemmas.Bool.Decides.{Decides-eqb}
use Rattle.std.proofs.lemmas.Slice.Eq.{strip_prefix_is}
use Rattle.std.specs.Prelude.{None, Some}
use Rattle.laws.proofs.Tests.{at}
use Rattle.capture.specs.Numbers.{whole_of}
use Rattle.capture.proofs.Numbers.{whole_plain}
use Rattle.capture.proofs.whole_of.Goals as goal

pub returns-in-Some : goal.returns-in-Some
unfolding whole_of
returns-in-Some c = at whole_of (strip_prefix_is Decides-eqb c.args.word.now (45 ∷ []) (Some c.in-Some.digits) c.in-Some.ensures.cases) c.signed_number.ensures

pub returns-in-None : goal.returns-in-None
returns-in-None c = c.signed_number-in-None.ensures ∙ whole_plain c.args.word.now (strip_prefix_is Decides-eqb c.args.word.now (45 ∷ []) None c.in-None.ensures.cases)
