-- `cutter::put_part` meets its contract: before each turn the first i bytes of the part are written. Assumes nothing.
use mathlib.Core.Path.{◌≡◌, refl, ap, ◌∙◌}
use native.Mathlib.Numerals.{add-one}
use native.Mathlib.Omega.{arith}
use lib.ListN.{length, length-set}
use lib.Seq.{paste, paste-zero, paste-suc}
use Rattle.laws.proofs.OverLaws.{paste_over}
use Rattle.cutter.proofs.put_part.Goals as goal

pub loop-i-init : goal.loop-i-init
loop-i-init c = let a = c.args in (paste-zero a.out.now a.at a.part.now, refl)

pub loop-i-preserved : goal.loop-i-preserved
loop-i-preserved c =
    let l = c.loop-i in
    let i = l.invariant in
    let a = c.args in (
      rw (i.0, add-one) (paste-suc a.out.now a.at a.part.now l.i 0 (omega arith) c.loop-i-test.true),
      simp length-set i.1,
    )

pub returns : goal.returns
returns c =
    let i = c.loop-i.invariant in
    let a = c.args in
    let e : c.loop-i.i ≡ length a.part.now = omega arith in
    i.0 ∙ ap (paste a.out.now a.at a.part.now) e ∙ paste_over a.out.now a.part.now a.at c.requires
