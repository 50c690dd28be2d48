-- `cutter::next_end` meets its contract: what is left of the stream has the whole's answer. Assumes nothing.
use Prim.Native.Nat.{◌+◌}
use mathlib.Core.Bool.{Bool, false, ◌&&◌}
use mathlib.Core.Path.{◌≡◌, sym, ap, ◌∙◌}
use borrow.Author.Tests.{eq-eqb, ne_eqb}
use lib.Dec.{eqb}
use lib.ListN.{get_or, drop}
use Rattle.laws.proofs.Tests.{and_both, and_fails, and_fails_by}
use Rattle.cutter.specs.Cutter.{end_from, lf_before}
use Rattle.cutter.proofs.Laws.{end_here, end_later, end_nowhere, lf_next}
use Rattle.cutter.proofs.Quiet.{end_behind}
use Rattle.cutter.proofs.next_end.Goals as goal
use Rattle.cutter.proofs.next_end.Goals.{else-stream-i-eq13-via-then-stream-i-eq13+else-is_lf_before, else-stream-i-eq13-via-else-stream-i-eq13}

pub loop-i-init : goal.loop-i-init
loop-i-init c = end_behind _ _ _ c.skip_quiet-i.ensures

pub returns-then-is_lf_before : goal.returns-then-is_lf_before
returns-then-is_lf_before c =
    let i = c.loop-i.i in
    sym (c.loop-i.invariant
    ∙ end_here _ _ i c.loop-i-test.true (and_both (eq-eqb _ _ c.if-stream-i-eq13.true) (sym c.is_lf_before.ensures ∙ c.if-is_lf_before.true)))

pub loop-i-preserved : goal.loop-i-preserved
loop-i-preserved c =
    let i = c.loop-i.i in
    let a = c.args in
    let s = a.stream.now in
    let b = get_or s i 0 in
    let lf = lf_before a.lf s i in
    let e : (eqb b 13 && lf) ≡ false = elim c.else-stream-i-eq13.branch [
      | else-stream-i-eq13-via-then-stream-i-eq13+else-is_lf_before w ↦ sym (and_fails_by (eqb b 13) (sym w.is_lf_before.ensures ∙ w.if-is_lf_before.false))
      | else-stream-i-eq13-via-else-stream-i-eq13 w ↦ sym (and_fails lf (ne_eqb _ _ w.if-stream-i-eq13.false))
    ] in
    c.loop-i.invariant
    ∙ end_later lf s i c.loop-i-test.true e
    ∙ ap (λ (x : Bool). end_from x (i + 1) (drop (i + 1) s)) (sym (lf_next a.lf s i))

pub returns : goal.returns
returns c = sym (c.loop-i.invariant ∙ end_nowhere _ _ _ c.loop-i-test.false)
