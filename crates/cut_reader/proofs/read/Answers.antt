-- `cut_reader::read` meets its contract: of a message that lies in its piece, and of one that is joined. Assumes nothing.
use mathlib.Core.Path.{sym, ap, ◌∙◌}
use borrow.Author.Rules.{rules}
use Rattle.frame.specs.Message.{read_of}
use Rattle.cutter.specs.Cutter.{held_message, then_read}
use Rattle.cutter.specs.declared.Cutter.{Cutter}
use Rattle.cut_reader.proofs.Cut.{held_none, held_fits, held_over}
use Rattle.cut_reader.proofs.read.Goals as goal

pub returns-then-cutter-eq0 : goal.returns-then-cutter-eq0
returns-then-cutter-eq0 g c =
    let a = c.args in
    c.judge.ensures ∙ sym (held_none (read_of g.R.Reader.form a.checksum) a.cutter a.part.now (search rules) c.if-cutter-eq0.true)

pub returns-then-held-gt-CUTTER_LENGTH : goal.returns-then-held-gt-CUTTER_LENGTH
returns-then-held-gt-CUTTER_LENGTH g c =
    let read = read_of g.R.Reader.form c.args.checksum in
    sym (held_over read c.held-held.result c.if-held-gt-CUTTER_LENGTH.true) ∙ ap (λ (d : Cutter). then_read read (held_message d)) c.held-held.ensures

pub returns : goal.returns
returns g c =
    let read = read_of g.R.Reader.form c.args.checksum in
    c.read.ensures
    ∙ sym (held_fits read c.held-held.result c.if-held-gt-CUTTER_LENGTH.false)
    ∙ ap (λ (d : Cutter). then_read read (held_message d)) c.held-held.ensures
