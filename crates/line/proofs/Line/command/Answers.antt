-- `line::Line::command` meets its contract: its tests are those of `command_of`. Assumes nothing.
use mathlib.Core.Path.{refl}
use borrow.Author.Tests.{le-leb, lt-leb}
use Rattle.laws.proofs.Tests.{yes, no}
use Rattle.line.specs.Command.{command_of}
use Rattle.line.proofs.Line.command.Goals as goal

pub returns-then-self : goal.returns-then-self
unfolding command_of
returns-then-self c = yes _ c.if-self.true refl

pub returns-then-self-le-LINE_LENGTH : goal.returns-then-self-le-LINE_LENGTH
unfolding command_of
returns-then-self-le-LINE_LENGTH c =
    no _ c.if-self.false (yes _ (le-leb _ _ c.if-self-le-LINE_LENGTH.true) c.command_in.ensures)

pub returns : goal.returns
unfolding command_of
returns c = no _ c.if-self.false (no _ (lt-leb _ _ c.if-self-le-LINE_LENGTH.false) refl)
