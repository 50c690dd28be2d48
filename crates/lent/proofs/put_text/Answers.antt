-- `lent::put_text` meets its contract: a part copied over is one write, and what has no room is not written. Assumes nothing.
use Rattle.std.proofs.Common.{refl, sym, ◌∙◌, length, arith}
use Rattle.std.proofs.lemmas.Slice.{put_mid-paste}
use borrow.Author.Tests.{leb-true, leb-false}
use Rattle.laws.proofs.OverLaws.{over_short, paste_over}
use Rattle.lent.proofs.put_text.Goals as goal

pub returns-then-not-has_room : goal.returns-then-not-has_room
returns-then-not-has_room c =
    sym (over_short _ _ _ (leb-false _ _ (sym c.has_room.ensures ∙ c.if-not-has_room.true)))

pub returns : goal.returns
returns c =
    let text = c.args.text.now in
    put_mid-paste _ _ _ _ text (length text) c.copy_from_slice.ensures.after (omega arith) refl ∙
    paste_over _ _ _ (leb-true _ _ (sym c.has_room.ensures ∙ c.if-not-has_room.false))
