-- `append::set_by` meets its contract: each test is one of `set_by`. Assumes nothing.
use mathlib.Core.Path.{sym, ap, ◌∙◌}
use borrow.Author.Tests.{not-true, not-false}
use Rattle.std.specs.Prelude.{Some}
use Rattle.append.proofs.Laws.{set_does, set_closed, set_not}
use Rattle.append.proofs.set_by.Goals as goal
use Rattle.append.proofs.set_by.Goals.{then-not-note-via-then-not-note, then-not-note-via-else-not-note+then-not-is_note}

pub returns-then-not-note : goal.returns-then-not-note
returns-then-not-note c =
    let a = c.args in
    elim c.then-not-note.branch [
      | then-not-note-via-then-not-note w ↦ sym (set_closed a.note a.s.now (not-true _ w.if-not-note.true))
      | then-not-note-via-else-not-note+then-not-is_note w ↦ sym (set_not a.note a.s.now (sym w.is_note.ensures ∙ w.if-not-is_note.true))
    ]

pub returns : goal.returns
returns c =
    let a = c.args in
    ap Some c.hold.ensures
    ∙ sym (set_does a.note a.s.now (not-false a.note.opened c.if-not-note.false) (sym c.is_note.ensures ∙ c.if-not-is_note.false))
