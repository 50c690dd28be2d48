-- `follow::Follower::take` meets its contract: 16, then a piece without the end of a line, then the line that ended. Assumes nothing.
use Prim.Native.Nat.{ℕ, ◌+◌}
use mathlib.Core.Path.{◌≡◌, sym, ap, ap₂, ◌∙◌}
use native.Mathlib.Omega.{arith}
use lib.ListN.{take}
use lib.Seq.{length-take-le}
use Rattle.std.specs.Prelude.{Ok}
use Rattle.capture.specs.Words.{before}
use Rattle.capture.proofs.Words.{before_low}
use Rattle.printed.specs.Printed.{LF}
use Rattle.follow.specs.Follow.{event_in, followed_by}
use Rattle.follow.specs.declared.Text.{Text}
use Rattle.follow.proofs.Laws.{valid_text_lem, take_16, take_hold, take_line}
use Rattle.follow.proofs.Follower.take.Goals as goal

pub returns-then-not-is_valid : goal.returns-then-not-is_valid
returns-then-not-is_valid c = let a = c.args in take_16 a.self a.piece.now a.out.now (cc)

pub returns-then-end-piece : goal.returns-then-end-piece
returns-then-end-piece c =
    let a = c.args in
    let all = c.if-end-piece.true in
    let g = take_hold a.self a.piece.now a.out.now (cc) (sym c.bytes_before-end.ensures ∙ all) in
    record {
      answers = ap₂ (λ (n : ℕ) (t : Text). record { wrote = Ok 0; used = n; follower = record { runs = a.self.runs; text = t; ports = a.self.ports } }) all c.joined.ensures ∙ g.answers;
      leaves = g.leaves;
    }

pub slice_bounds-event-end : goal.slice_bounds-event-end
slice_bounds-event-end c =
    sym (length-take-le _ _ (omega (arith, before_low LF c.args.piece.now, c.bytes_before-end.ensures)))

pub event-addressed-requires : goal.event-addressed-requires
event-addressed-requires c = valid_text_lem c.args.self (cc)

pub overflow_add-end : goal.overflow_add-end
overflow_add-end c =
    record { fits = omega (arith, before_low LF c.args.piece.now, c.bytes_before-end.ensures, c.if-end-piece.false, c.well_formed) }

pub returns : goal.returns
returns c =
    let a = c.args in
    let end = c.bytes_before-end.result in
    let is : end ≡ before LF a.piece.now = c.bytes_before-end.ensures in
    let line = c.event-addressed.ensures ∙ ap (λ (n : ℕ). event_in a.self (take n a.piece.now)) is in
    let g = take_line a.self a.piece.now a.out.now (cc) (λ q. c.if-end-piece.false (is ∙ q)) line c.tell-told.ensures in
    record {
      answers = c.followed.ensures ∙ ap (λ (n : ℕ). followed_by a.self c.tell-told.result (n + 1)) is ∙ g.answers;
      leaves = g.leaves;
    }
