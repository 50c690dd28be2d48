-- `follow::Text::event` meets its contract: the first bytes of a line tell its event. Assumes nothing.
use Prim.Native.Nat.{ℕ}
use mathlib.Core.List.{◌++◌}
use mathlib.Core.Path.{◌≡◌, sym, ap, subst, ◌∙◌}
use borrow.Author.Tests.{leb-true}
use lib.ListN.{take}
use Rattle.runs.specs.Runs.{event_at}
use Rattle.follow.specs.Follow.{held_in}
use Rattle.follow.specs.declared.Text.{Text}
use Rattle.follow.proofs.Laws.{Sound, joined_sound, tells_event}
use borrow.Author.Rules.{rules}
use Rattle.follow.proofs.Text.event.Goals as goal

pub returns-then-self-eq0 : goal.returns-then-self-eq0
returns-then-self-eq0 c =
    let a = c.args in
    let z : a.self.len ≡ 0 = c.if-self-eq0.true in
    c.event_at.ensures ∙ ap (λ (n : ℕ). event_at a.ports (take n a.self.bytes ++ a.part.now)) (sym z)

pub shared_ref_as_front-event_at : goal.shared_ref_as_front-event_at
shared_ref_as_front-event_at c =
    let sound : Sound c.args.self = record { long = search rules; few = leb-true _ _ c.requires } in
    (subst Sound (sym c.joined-text.ensures) (joined_sound c.args.self c.args.part.now sound)).few

pub returns : goal.returns
returns c =
    let sound : Sound c.args.self = record { long = search rules; few = leb-true _ _ c.requires } in
    c.event_at-2.ensures
    ∙ ap (λ (t : Text). event_at c.args.ports (held_in t)) c.joined-text.ensures
    ∙ tells_event c.args.ports c.args.self c.args.part.now sound
