-- `recorder::Recorder::take` meets its contract: to look for the end, then to read what stands before it. Assumes nothing.
use mathlib.Core.Path.{sym, ap, ◌∙◌}
use borrow.Author.Rules.{rules}
use lib.Seq.{length-take-le}
use Rattle.std.specs.Prelude.{Some, Ok}
use Rattle.recorder.specs.Recorder.{opens_by, cut_on}
use Rattle.recorder.proofs.Takes.{take_none, take_some}
use Rattle.recorder.proofs.Recorder.take.Goals as goal

pub returns-in_default : goal.returns-in_default
returns-in_default c = c.hold.ensures ∙ sym (take_none c.args.self c.args.piece.now (search rules) (sym c.end_in.ensures ∙ c.in_default.is))

pub slice_bounds-make-end : goal.slice_bounds-make-end
slice_bounds-make-end c =
    let a = c.args in
    sym (length-take-le c.in-Some.n a.piece.now (take_some a.self a.piece.now (search rules) _ (sym c.end_in.ensures ∙ c.in-Some.is)).0)

pub returns : goal.returns
returns c =
    let a = c.args in
    let r = a.self in
    let x = c.make-reading.ensures in
    let o = c.is_opened_by.ensures ∙ ap (opens_by r.opened) x in
    (λ i. record { made = Ok (Some (x i)); used = c.in-Some.n; recorder = cut_on r (c.fresh.ensures i) (o i) })
    ∙ sym (take_some r a.piece.now (search rules) _ (sym c.end_in.ensures ∙ c.in-Some.is)).1
