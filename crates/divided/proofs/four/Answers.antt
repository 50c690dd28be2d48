-- `divided::four` meets its contract: the law of each line, and the bytes of the word are the digits. Assumes nothing.
use mathlib.Core.Path.{ap, ◌∙◌}
use native.Mathlib.Omega.{arith}
use Rattle.laws.specs.Lowest.{lowest_first}
use Rattle.divided.proofs.Words.{two_tens, four_word, bytes_word}
use Rattle.divided.proofs.four.Goals as goal

pub overflow_mul-result-2 : goal.overflow_mul-result-2
overflow_mul-result-2 c = omega (arith, two_tens c.args.n c.requires)

pub overflow_sub-result : goal.overflow_sub-result
overflow_sub-result c = omega (arith, two_tens c.args.n c.requires)

pub returns : goal.returns
returns c = ap (lowest_first 4) (four_word c.args.n c.requires) ∙ bytes_word 4 c.args.n
