-- `follow::Text::joined` meets its contract: what is left of the part joins what has joined so far. Assumes nothing.
use Prim.Native.Nat.{◌+◌, ◌≤◌}
use mathlib.Core.Path.{refl, sym, ap, ◌∙◌}
use native.Mathlib.Omega.{arith}
use lib.ListN.{length, drop, drop_of_length-le}
use Rattle.follow.specs.Follow.{joined_text}
use Rattle.follow.specs.declared.Text.{Text}
use Rattle.follow.proofs.Laws.{joins_kept, joined_full, joined_next}
use Rattle.follow.proofs.Text.joined.Goals as goal

pub loop-b-init : goal.loop-b-init
loop-b-init c = refl

pub returns-then-at-ge-HELD_LENGTH : goal.returns-then-at-ge-HELD_LENGTH
returns-then-at-ge-HELD_LENGTH c =
    let l = c.loop-b in
    sym (l.invariant ∙ joined_full l.text _ c.if-at-ge-HELD_LENGTH.true)

pub loop-b-preserved : goal.loop-b-preserved
loop-b-preserved c =
    let l = c.loop-b in
    let s = c.args.part.now in
    l.invariant
    ∙ joined_next l.text s l.b-index (omega arith)
    ∙ ap (λ (t : Text). joined_text t (drop (l.b-index + 1) s)) (joins_kept l.text _ (omega arith))

pub returns : goal.returns
unfolding joined_text
returns c =
    let l = c.loop-b in
    let s = c.args.part.now in
    let e : length s ≤ l.b-index = omega arith in
    sym (l.invariant ∙ ap (joined_text l.text) (drop_of_length-le s e))
