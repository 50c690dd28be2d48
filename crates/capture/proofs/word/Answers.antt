-- `capture::word` meets its contract: the part from where the word starts up to the next space. Assumes nothing.
use Prim.Native.Nat.{◌+◌, ◌-◌, ◌≤◌}
use mathlib.Core.Path.{◌≡◌, ap, ◌∙◌}
use native.Mathlib.Nat.{add-sub_cancel_left}
use native.Mathlib.Omega.{arith}
use lib.ListN.{length, drop, length-drop}
use Rattle.laws.proofs.ListLaws.{last_part}
use Rattle.capture.specs.Words.{before, space, word}
use Rattle.capture.proofs.Words.{before_low}
use Rattle.capture.proofs.word.Tie as tie
use Rattle.capture.proofs.word.Lts as lts
use Rattle.capture.proofs.word.Goals as goal

abbrev After-bytes_before : Type 0
After-bytes_before = lts.After-bytes_before tie.the-claims tie.handed_pre tie.handed_post

-- what the call counted
passes : (b : After-bytes_before) → b.bytes_before-n.result ≡ before space (drop b.word_start-at.result b.args.line.now)
passes b =
    let at = b.word_start-at.result in
    let s = b.args.line.now in
    let fits = b.word_start-at.ensures.fits in
    b.bytes_before-n.ensures ∙ ap (before space) (last_part at (length s - at) s (omega arith))

-- the word lies in the line
inside : (b : After-bytes_before) → b.word_start-at.result + b.bytes_before-n.result ≤ length b.args.line.now
inside b =
    let w = b.word_start-at in
    let s = b.args.line.now in
    let low = before_low space (drop w.result s) in
    omega (arith, passes b, length-drop w.result s, low, w.ensures.fits)

pub overflow_add-end : goal.overflow_add-end
overflow_add-end c = omega (arith, inside c.before)

pub slice_bounds-result-end : goal.slice_bounds-result-end
slice_bounds-result-end c = omega (arith, inside c.before)

pub returns : goal.returns
unfolding word
returns c =
    let w = c.word_start-at in
    let n : w.result + c.bytes_before-n.result - w.result ≡ before space (drop w.result c.args.line.now) =
    add-sub_cancel_left w.result c.bytes_before-n.result ∙ passes c.before.before in
    rw (n, w.ensures.there)
