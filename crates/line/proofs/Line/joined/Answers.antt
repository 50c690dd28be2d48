-- `line::Line::joined` meets its contract: its test is the one of `joined`. Assumes nothing.
use mathlib.Core.Path.{refl}
use borrow.Author.Tests.{lt-ltb, le-ltb}
use Rattle.laws.proofs.Tests.{yes, no}
use Rattle.line.specs.Line.{joined}
use Rattle.line.proofs.Line.joined.Goals as goal

pub returns-then-at-lt-LINE_LENGTH : goal.returns-then-at-lt-LINE_LENGTH
unfolding joined
returns-then-at-lt-LINE_LENGTH c = yes _ (lt-ltb _ _ c.if-at-lt-LINE_LENGTH.true) refl

pub returns : goal.returns
unfolding joined
returns c = no _ (le-ltb _ _ c.if-at-lt-LINE_LENGTH.false) refl
