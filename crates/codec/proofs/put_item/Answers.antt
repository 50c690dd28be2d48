-- `codec::put_item` meets its contract: a text as long as the item is all that is left there. Assumes nothing.
use mathlib.Core.Path.{refl, ◌∙◌}
use borrow.Author.Tests.{eq-eqb, ne_eqb}
use Rattle.laws.proofs.Tests.{yes, no}
use Rattle.codec.proofs.Texts.{over_whole_lem}
use Rattle.codec.proofs.put_item.Goals as goal

pub returns-then-text-item : goal.returns-then-text-item
returns-then-text-item c = no _ (ne_eqb _ _ c.if-text-item.true) refl

pub returns : goal.returns
returns c =
    let p = c.before.before.before in
    let l = p.if-text-item.false in
    yes _ (eq-eqb _ _ l) (p.put_text.ensures ∙ over_whole_lem _ _ l)
