-- `layout::put_number` meets its contract: before each turn, what is left to write makes of the memory what the whole write does. Assumes nothing.
use Rattle.std.proofs.Common.{◌≡◌, ℕ, suc, ◌+◌, ◌-◌, ◌/◌, ◌%◌, ◌<◌, ◌≤◌, List, length, set, sym, ◌∙◌, add_assoc, arith, leb-false, length-set}
use native.Mathlib.Nat.{sub_self}
use Rattle.laws.specs.Lowest.{lowest_first}
use Rattle.laws.specs.Over.{over}
use Rattle.laws.proofs.OverLaws.{over_short, over_none, over_byte}
use Rattle.layout.proofs.Laws.{number_long}
use Rattle.layout.proofs.put_number.Goals as goal

-- a turn
turn : (d : List ℕ) (at width m i : ℕ) → at + width ≤ length d → i < width →
    over (set d (at + i) (m % 256)) (at + (i + 1)) (lowest_first (width - (i + 1)) (m / 256)) ≡ over d (at + i) (lowest_first (width - i) m)
unfolding lowest_first
turn d at width m i room h =
    let left : width - i ≡ suc (width - (i + 1)) = omega arith in
    let fits : at + i + 1 + length (lowest_first (width - (i + 1)) (m / 256)) ≤ length d = omega (arith, number_long (width - (i + 1)) (m / 256)) in
    rw (left, ← add_assoc at i 1) (over_byte d (lowest_first (width - (i + 1)) (m / 256)) (at + i) (m % 256) fits)

-- the end
ended : (d : List ℕ) (at width m i : ℕ) → at + width ≤ length d → i ≡ width → over d (at + i) (lowest_first (width - i) m) ≡ d
unfolding lowest_first
ended d at width m i room e = rw (e, sub_self width) (over_none d (at + width) room)

pub returns-then-not-has_room : goal.returns-then-not-has_room
returns-then-not-has_room c =
    let a = c.args in
    let short = sym c.has_room.ensures ∙ c.if-not-has_room.true in
    sym (over_short a.out.now (lowest_first a.width a.n) a.at (rw (number_long a.width a.n) (leb-false _ _ short)))

pub loop-i-preserved : goal.loop-i-preserved
loop-i-preserved c =
    let a = c.args in
    let l = c.loop-i in
    let v = l.invariant in
    (simp length-set v.0, turn l.out a.at a.width l.m l.i v.0 c.loop-i-test.true ∙ v.1)

pub returns : goal.returns
returns c =
    let a = c.args in
    let l = c.loop-i in
    sym (ended l.out a.at a.width l.m l.i l.invariant.0 (omega arith)) ∙ l.invariant.1
