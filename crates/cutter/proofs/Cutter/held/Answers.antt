-- `cutter::Cutter::held` meets its contract: the bytes copied and those left make the same cutter; what is too long is not copied. Assumes nothing.
use Prim.Native.Nat.{ℕ, ◌+◌, ◌<◌}
use mathlib.Core.Path.{◌≡◌, sym, ap, ◌∙◌}
use native.Mathlib.Omega.{arith}
use borrow.Author.Rules.{rules}
use lib.ListN.{length, get_or, drop, set, length-set}
use Rattle.cutter.specs.Cutter.{cutter_length, zeros, too_many, held_from}
use Rattle.cutter.proofs.Laws.{held_room, held_none, held_many}
use Rattle.cutter.proofs.Cutter.held.Invariants.{kept}
use Rattle.cutter.proofs.Cutter.held.Goals as goal
use Rattle.cutter.proofs.Cutter.held.Goals.{else-at-le-CUTTER_LENGTH-via-then-at-le-CUTTER_LENGTH+else-n-at, else-at-le-CUTTER_LENGTH-via-else-at-le-CUTTER_LENGTH}

pub returns-then-n-eq0 : goal.returns-then-n-eq0
returns-then-n-eq0 c = let a = c.args in sym (held_none a.self a.part.now 0 (omega arith))

pub loop-i-init : goal.loop-i-init
loop-i-init c =
    let a = c.args in
    let z : a.self.len ≡ a.self.len + 0 = omega arith in
    (search rules, ap (λ (j : ℕ). held_from (kept a.self.bytes j) a.part.now) z)

pub loop-i-preserved : goal.loop-i-preserved
loop-i-preserved c =
    let l = c.loop-i in
    let a = c.args in
    let s = a.part.now in
    let n = a.self.len + l.i in
    let z : n + 1 ≡ a.self.len + (l.i + 1) = omega arith in (
      simp length-set l.invariant.0,
      l.invariant.1
          ∙ held_room l.bytes s n l.i c.loop-i-test.true (omega arith)
          ∙ ap (λ (j : ℕ). held_from (kept (set l.bytes n (get_or s l.i 0)) j) (drop (l.i + 1) s)) z,
    )

pub returns-then-n-at : goal.returns-then-n-at
returns-then-n-at c =
    let l = c.loop-i in
    let a = c.args in
    let z : a.self.len + l.i ≡ a.self.len + length a.part.now = omega arith in
    sym (l.invariant.1 ∙ held_none (kept l.bytes (a.self.len + l.i)) a.part.now l.i c.loop-i-test.false ∙ ap (kept l.bytes) z)

pub returns : goal.returns
unfolding too_many zeros
returns c =
    let a = c.args in
    let k : 0 < length a.part.now = omega (arith, c.if-n-eq0.false) in
    let h : cutter_length < a.self.len + length a.part.now = elim c.else-at-le-CUTTER_LENGTH.branch [
      | else-at-le-CUTTER_LENGTH-via-then-at-le-CUTTER_LENGTH+else-n-at w ↦ omega arith
      | else-at-le-CUTTER_LENGTH-via-else-at-le-CUTTER_LENGTH w ↦ omega arith
    ] in
    sym (held_many a.self a.part.now k h)
