-- `capture::space_count` meets its contract: the bytes that are spaces, counted. Assumes nothing.
use mathlib.Core.Path.{◌≡◌, sym, ◌∙◌}
use borrow.Author.Rules.{rules}
use lib.Dec.{eqb}
use Rattle.std.specs.List.{count_by}
use Rattle.capture.specs.Words.{space}
use Rattle.capture.proofs.Words.{spaces_counted}
use Rattle.capture.proofs.space_count.Goals as goal

pub returns : goal.returns
returns c =
    let e : c.count.result ≡ count_by (λ b. eqb b space) c.args.line.now = search rules in
    e ∙ sym (spaces_counted c.args.line.now)
