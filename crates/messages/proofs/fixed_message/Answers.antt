-- `messages::fixed_message` meets its contract: the fixed data in a fresh buffer, ended. Assumes nothing.
use native.Mathlib.Omega.{arith}
use Rattle.fixed.specs.Form.{fixed_length, fixed_form}
use Rattle.fixed.proofs.Given.{Long}
use Rattle.nwriter.proofs.Printed.{printed_long}
use Rattle.state.specs.State.{zeros}
use Rattle.messages.proofs.Laws.{closed_is}
use borrow.Author.Rules.{rules}
use Rattle.messages.proofs.fixed_message.Tie as tie
use Rattle.messages.proofs.fixed_message.Lts as lts
use Rattle.messages.proofs.fixed_message.Goals as goal

abbrev Start : Type 0
Start = lts.Start tie.the-claims tie.handed_pre tie.handed_post

-- by type
lengths : (b : Start) → Long b.args.fixed.serial b.args.fixed.owner b.args.fixed.version
lengths b = record { nine = search rules; thirty_one_lem = search rules; four = search rules }

pub returns : goal.returns
unfolding zeros
returns c =
    let f = c.args.fixed in
    closed_is (fixed_form.print f) fixed_length (printed_long f (lengths c.before.before.before.before)) (omega arith) c.args.checksum c.closed.ensures c.put_fixed_data.ensures
