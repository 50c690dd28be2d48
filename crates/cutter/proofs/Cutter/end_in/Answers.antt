-- `cutter::Cutter::end_in` meets its contract: its tests are those of `end_in`; nothing held, there is no LF before the piece. Assumes nothing.
use mathlib.Core.Bool.{Bool}
use mathlib.Core.Path.{refl, sym, ap, ◌∙◌}
use Rattle.laws.proofs.Tests.{yes, no}
use Rattle.cutter.specs.Cutter.{after_lf, end_from, end_in}
use Rattle.cutter.proofs.Cutter.end_in.Goals as goal

pub returns-then-self-eq0 : goal.returns-then-self-eq0
unfolding end_in after_lf
returns-then-self-eq0 c = rw c.if-self-eq0.true c.next_end.ensures

pub returns-then-not-is_valid : goal.returns-then-not-is_valid
unfolding end_in
returns-then-not-is_valid c = no _ (sym c.is_valid.ensures ∙ c.if-not-is_valid.true) refl

pub returns : goal.returns
unfolding end_in
returns c =
    let p = c.args.piece.now in
    yes _ (sym c.is_valid.ensures ∙ c.if-not-is_valid.false)
    (c.next_end-2.ensures ∙ ap (λ (lf : Bool). end_from lf 0 p) c.is_after_lf.ensures)
