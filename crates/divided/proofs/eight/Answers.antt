-- `divided::eight` meets its contract: the law of each line, and the bytes of the word are the digits. Assumes nothing.
use mathlib.Core.Path.{ap, ◌∙◌}
use native.Mathlib.Omega.{arith}
use Rattle.laws.specs.Lowest.{lowest_first}
use Rattle.divided.proofs.Words.{two_hundreds, four_lanes, four_tens, lanes_fit, digits_fit, eight_word, bytes_word}
use Rattle.divided.proofs.eight.Goals as goal

pub overflow_mul-lanes-2 : goal.overflow_mul-lanes-2
overflow_mul-lanes-2 c = omega (arith, two_hundreds c.args.n c.requires)

pub overflow_sub-lanes : goal.overflow_sub-lanes
overflow_sub-lanes c = omega (arith, two_hundreds c.args.n c.requires)

pub overflow_mul-tens : goal.overflow_mul-tens
overflow_mul-tens c = omega (arith, lanes_fit c.args.n c.requires)

pub overflow_mul-result : goal.overflow_mul-result
overflow_mul-result c = omega (arith, lanes_fit c.args.n c.requires)

pub overflow_mul-result-2 : goal.overflow_mul-result-2
overflow_mul-result-2 c = omega (arith, four_tens c.args.n c.requires)

pub overflow_sub-result : goal.overflow_sub-result
overflow_sub-result c = omega (arith, four_lanes c.args.n c.requires, four_tens c.args.n c.requires)

pub overflow_add-result : goal.overflow_add-result
overflow_add-result c = omega (arith, digits_fit c.args.n c.requires)

pub returns : goal.returns
returns c = ap (lowest_first 8) (eight_word c.args.n c.requires) ∙ bytes_word 8 c.args.n
