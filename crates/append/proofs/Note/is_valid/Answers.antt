-- `append::Note::is_valid` meets its contract: each test is one of `valid_note`. Assumes nothing.
use mathlib.Core.Logic.{inl, inr}
use mathlib.Core.Path.{sym, ◌∙◌}
use borrow.Author.Tests.{eq-eqb}
use Rattle.append.proofs.Laws.{valid_none, valid_by, invalid_closed, invalid_past}
use Rattle.append.proofs.Note.is_valid.Goals as goal

pub returns-then-self-eq0 : goal.returns-then-self-eq0
returns-then-self-eq0 c = eq-eqb _ _ c.if-self-eq0.true ∙ sym (valid_none c.args.self c.if-self-eq0.true)

pub returns-then-self-le-NOTE_LENGTH : goal.returns-then-self-le-NOTE_LENGTH
returns-then-self-le-NOTE_LENGTH c =
    let h = c.if-self-le-NOTE_LENGTH.true in
    c.is_note.ensures ∙ sym (valid_by c.args.self c.if-self-eq0.false h.0 h.1)

pub returns-else-self-le-NOTE_LENGTH : goal.returns-else-self-le-NOTE_LENGTH
returns-else-self-le-NOTE_LENGTH c =
    let n = c.args.self in
    let z = c.if-self-eq0.false in
    elim c.if-self-le-NOTE_LENGTH.either
    [ inl p ↦ cc (invalid_past n z p.0 p.1) | inr p ↦ cc (invalid_closed n z p) ]
