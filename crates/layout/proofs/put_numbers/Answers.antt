-- `layout::put_numbers` meets its contract: before each turn, what is left to write makes of the memory what the whole write does. Assumes nothing.
use Rattle.std.proofs.Common.{◌≡◌, ℕ, ◌+◌, ◌*◌, ◌≤◌, List, length, drop, sym, ap, ◌∙◌, arith, drop_of_length-le}
use Rattle.laws.specs.Over.{over}
use Rattle.laws.proofs.OverLaws.{over_none}
use Rattle.layout.specs.Layout.{four_each}
use Rattle.layout.proofs.Laws.{over_number}
use Rattle.layout.proofs.put_numbers.Goals as goal

-- the end
ended : (d s : List ℕ) (i : ℕ) → length s ≤ i → 4 * i ≤ length d → over d (4 * i) (four_each (drop i s)) ≡ d
unfolding four_each
ended d s i h room = rw (drop_of_length-le s {i = i} h) (over_none d (4 * i) room)

pub loop-i-preserved : goal.loop-i-preserved
loop-i-preserved c =
    let l = c.loop-i in
    let s = c.args.numbers.now in
    ap (λ (d : List ℕ). over d (4 * (l.i + 1)) (four_each (drop (l.i + 1) s))) c.put_number.ensures
    ∙ over_number l.out s l.i c.loop-i-test.true (omega arith) ∙ l.invariant

pub returns : goal.returns
returns c =
    let l = c.loop-i in
    sym (ended l.out c.args.numbers.now l.i c.loop-i-test.false (omega arith)) ∙ l.invariant
