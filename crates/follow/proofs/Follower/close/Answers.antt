-- `follow::Follower::close` meets its contract: 16, then no line, then the line that has not ended. Assumes nothing.
use mathlib.Core.List.{append-nil}
use mathlib.Core.Path.{ap, ◌∙◌}
use Rattle.runs.specs.Runs.{event_at}
use Rattle.follow.specs.Follow.{held_in}
use Rattle.follow.proofs.Laws.{valid_text_lem, close_16, close_none, close_line}
use Rattle.follow.proofs.Follower.close.Goals as goal

pub returns-then-not-is_valid : goal.returns-then-not-is_valid
returns-then-not-is_valid c = close_16 c.args.self c.args.out.now (cc)

pub returns-then-self-eq0 : goal.returns-then-self-eq0
returns-then-self-eq0 c = close_none c.args.self c.args.out.now (cc) c.if-self-eq0.true

pub event-addressed-requires : goal.event-addressed-requires
event-addressed-requires c = valid_text_lem c.args.self (cc)

pub returns : goal.returns
returns c =
    let a = c.args in
    let line = c.event-addressed.ensures ∙ ap (event_at a.self.ports) (append-nil (held_in a.self.text)) in
    let g = close_line a.self a.out.now (cc) c.if-self-eq0.false line c.tell-told.ensures in
    record { answers = c.followed.ensures ∙ g.answers; leaves = g.leaves }
