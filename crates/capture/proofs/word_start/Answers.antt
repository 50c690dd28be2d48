-- `capture::word_start` meets its contract: what is left to pass from a place on has the whole's answer. Assumes nothing.
use Prim.Native.Nat.{ℕ, suc, ◌+◌, ◌-◌, ◌≤◌}
use mathlib.Core.List.{List}
use mathlib.Core.Path.{◌≡◌, sym, ap, ◌∙◌}
use native.Mathlib.Omega.{arith}
use borrow.Author.Rules.{rules}
use lib.ListN.{length, drop, take}
use lib.Seq.{drop-length}
use Rattle.laws.proofs.ListLaws.{last_part}
use Rattle.capture.specs.Words.{before, space, behind}
use Rattle.capture.proofs.Words.{behind_more, behind_last}
use Rattle.capture.proofs.word_start.Goals as goal

-- what the call counted
passes : (s : List ℕ) (at n : ℕ) → at ≤ length s → n ≡ before space (take (length s - at) (drop at s)) → n ≡ before space (drop at s)
passes s at n fits e = e ∙ ap (before space) (last_part at (length s - at) s (omega arith))

pub loop-init : goal.loop-init
loop-init c = (search rules, search rules, ap (λ (j : ℕ). behind j c.args.line.now) (omega arith))

pub returns-then-line-at : goal.returns-then-line-at
returns-then-line-at c =
    let l = c.loop in
    let k = c.args.k in
    let s = c.args.line.now in
    let n = c.bytes_before-n.result in
    let left : k - l.counter ≡ suc (k - (l.counter + 1)) = omega arith in
    record {
      fits = omega arith;
      there = drop-length s ∙ sym (l.invariant.2 ∙ ap (λ (j : ℕ). behind j (drop l.at s)) left ∙ behind_last _ l.at n s (passes s l.at n l.invariant.0 c.bytes_before-n.ensures) c.if-line-at.true);
    }

pub loop-preserved : goal.loop-preserved
loop-preserved c =
    let l = c.loop in
    let k = c.args.k in
    let s = c.args.line.now in
    let n = c.bytes_before-n.result in
    let left : k - l.counter ≡ suc (k - (l.counter + 1)) = omega arith in
    let next : l.at + n + 1 ≡ l.at + (n + 1) = omega arith in (
      omega arith,
      omega arith,
      l.invariant.2
          ∙ ap (λ (j : ℕ). behind j (drop l.at s)) left
          ∙ behind_more (k - (l.counter + 1)) l.at n s (passes s l.at n l.invariant.0 c.bytes_before-n.ensures)
          ∙ ap (λ (j : ℕ). behind (k - (l.counter + 1)) (drop j s)) next,
    )

pub returns : goal.returns
unfolding behind
returns c =
    let l = c.loop in
    let e : c.args.k - l.counter ≡ 0 = omega arith in
    record { fits = l.invariant.0; there = sym (l.invariant.2 ∙ ap (λ (j : ℕ). behind j (drop l.at c.args.line.now)) e) }
