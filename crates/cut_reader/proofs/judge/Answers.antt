-- `cut_reader::judge` meets its contract: its test is the one of `judged`. Assumes nothing.
use mathlib.Core.Path.{sym, ◌∙◌}
use Rattle.frame.specs.Message.{read_of}
use Rattle.cut_reader.proofs.Cut.{judged_fits, judged_long}
use Rattle.cut_reader.proofs.judge.Goals as goal

pub returns-then-m-gt-CUTTER_LENGTH : goal.returns-then-m-gt-CUTTER_LENGTH
returns-then-m-gt-CUTTER_LENGTH g c =
    let a = c.args in
    sym (judged_long (read_of g.R.Reader.form a.checksum) a.m.now c.if-m-gt-CUTTER_LENGTH.true)

pub returns : goal.returns
returns g c =
    let a = c.args in
    c.read.ensures ∙ sym (judged_fits (read_of g.R.Reader.form a.checksum) a.m.now c.if-m-gt-CUTTER_LENGTH.false)
