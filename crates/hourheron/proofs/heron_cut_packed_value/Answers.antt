-- `hourheron::heron_cut_packed_value` meets its contract: by where a message ends, what the reader answered is laid. Assumes nothing.
use mathlib.Core.Path.{sym, ap, ◌∙◌}
use borrow.Author.Rules.{rules}
use lib.Seq.{length-take-le}
use Rattle.frame.specs.Message.{read_of, then_write, then_left}
use Rattle.record.specs.Forms.{packed_form}
use Rattle.cutter.specs.Cutter.{then_read}
use Rattle.cutter.proofs.Cuts.{cut_some}
use Rattle.layout.specs.Layout.{record_bytes, record_width}
use Rattle.hourheron.specs.Cuts.{cut_to}
use Rattle.hourheron.proofs.Cuts.{cuts_none, cuts_some}
use Rattle.hourheron.proofs.heron_cut_packed_value.Goals as goal

pub returns-in_default : goal.returns-in_default
returns-in_default c =
    let a = c.args in
    let g = cuts_none _ _ a.cutter a.piece.now a.out.now (search rules) (sym c.end_in.ensures ∙ c.in_default.is) in
    record { answers = c.handed.ensures ∙ ap cut_to c.hold.ensures ∙ g.answers; leaves = g.leaves }

pub slice_bounds-read_packed-end : goal.slice_bounds-read_packed-end
slice_bounds-read_packed-end c =
    let a = c.args in
    sym (length-take-le c.in-Some.n a.piece.now (cut_some a.cutter a.piece.now _ (search rules) (sym c.end_in.ensures ∙ c.in-Some.is)).1)

pub returns : goal.returns
returns c =
    let a = c.args in
    let read = then_read (read_of packed_form a.checksum) in
    let out = a.out.now in
    let laid = rw c.read_packed-read.ensures at c.lay_record.ensures in
    let g = cuts_some (λ x. then_write record_width (read x) out) (λ x d. then_left record_bytes (read x) d) a.cutter a.piece.now out (search rules)
    _ c.lay_record.result (sym c.end_in.ensures ∙ c.in-Some.is) laid in
    record { answers = c.ended.ensures ∙ g.answers; leaves = g.leaves }
