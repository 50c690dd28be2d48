-- `messages::text_message` meets its contract: the record in a fresh buffer, ended. Assumes nothing.
use mathlib.Core.Path.{◌≡◌}
use native.Mathlib.Omega.{arith}
use lib.ListN.{length}
use Rattle.record.specs.Forms.{text_length, text_form}
use Rattle.text_writer.proofs.Written.{record_long}
use Rattle.state.specs.State.{zeros}
use Rattle.messages.proofs.Laws.{closed_is}
use borrow.Author.Rules.{rules}
use Rattle.messages.proofs.text_message.Tie as tie
use Rattle.messages.proofs.text_message.Lts as lts
use Rattle.messages.proofs.text_message.Goals as goal

abbrev Start : Type 0
Start = lts.Start tie.the-claims tie.handed_pre tie.handed_post

-- by type
nine : (b : Start) → length b.args.r.serial ≡ 9
nine b = search rules

pub returns : goal.returns
unfolding zeros
returns c =
    let r = c.args.r in
    closed_is (text_form.print r) text_length (record_long r (nine c.before.before.before.before)) (omega arith) c.args.checksum c.closed.ensures c.put_text_record.ensures
