-- `messages::packed_message` meets its contract: the record in a fresh buffer, ended. Assumes nothing.
use mathlib.Core.Path.{◌≡◌}
use native.Mathlib.Omega.{arith}
use lib.ListN.{length}
use Rattle.record.specs.Forms.{packed_length, packed_form}
use Rattle.packed_writer.proofs.Written.{record_long}
use Rattle.state.specs.State.{zeros}
use Rattle.messages.proofs.Laws.{closed_is}
use borrow.Author.Rules.{rules}
use Rattle.messages.proofs.packed_message.Tie as tie
use Rattle.messages.proofs.packed_message.Lts as lts
use Rattle.messages.proofs.packed_message.Goals as goal

abbrev Start : Type 0
Start = lts.Start tie.the-claims tie.handed_pre tie.handed_post

-- by type
nine : (b : Start) → length b.args.r.serial ≡ 9
nine b = search rules

pub returns : goal.returns
unfolding zeros
returns c =
    let r = c.args.r in
    closed_is (packed_form.print r) packed_length (record_long r (nine c.before.before.before.before)) (omega arith) c.args.checksum c.closed.ensures c.put_packed_record.ensures
