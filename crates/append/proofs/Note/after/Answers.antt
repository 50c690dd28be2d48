-- `append::Note::after` meets its contract: each test is one of `note_after`. Assumes nothing.
use mathlib.Core.Path.{refl}
use borrow.Author.Tests.{le-leb, lt-leb}
use Rattle.laws.proofs.Tests.{yes, no}
use Rattle.append.specs.Append.{note_after}
use Rattle.append.proofs.Note.after.Goals as goal
use Rattle.append.proofs.Note.after.Goals.{then-line-via-then-line, then-line-via-else-line+then-line-gt-LINE_LENGTH}

pub returns-then-line : goal.returns-then-line
unfolding note_after
returns-then-line c =
    elim c.then-line.branch [
      | then-line-via-then-line w ↦ yes _ w.if-line.true refl
      | then-line-via-else-line+then-line-gt-LINE_LENGTH w ↦ no _ w.if-line.false (no _ (lt-leb _ _ w.if-line-gt-LINE_LENGTH.true) refl)
    ]

pub returns : goal.returns
unfolding note_after
returns c = no _ c.if-line.false (yes _ (le-leb _ _ c.if-line-gt-LINE_LENGTH.false) c.noted_by.ensures)
