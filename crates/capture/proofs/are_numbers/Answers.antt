-- `capture::are_numbers` meets its contract: each of the eleven words is asked. Assumes nothing.
use mathlib.Core.Path.{refl, sym, ◌∙◌}
use native.Mathlib.Omega.{arith}
use borrow.Author.Rules.{rules}
use borrow.Author.Tests.{tests}
use Rattle.std.proofs.lemmas.Iterator.{YieldsList-from_range}
use Rattle.std.proofs.lemmas.Iterator.Search.{all_from_yields_List}
use Rattle.capture.specs.Words.{word}
use Rattle.capture.specs.Numbers.{is_whole}
use Rattle.capture.proofs.Numbers.{numbers_listed}
use Rattle.capture.proofs.are_numbers.Goals as goal

pub returns : goal.returns
returns c =
    let s = c.args.line.now in
    all_from_yields_List (λ k. is_whole (word k s)) _ _ _ c.all.ensures.ran (YieldsList-from_range 1 12 11 refl refl) (λ x b q k. search (rules, tests))
    ∙ sym (numbers_listed s 11 (omega arith))
