-- `packed_bytes::is_record` meets its contract: its groups in order. Assumes nothing.
use mathlib.Core.Path.{◌≡◌}
use lib.ListN.{length}
use borrow.Author.Rules.{rules}
use Rattle.packed_bytes.proofs.Right.{whole}
use Rattle.packed_bytes.proofs.is_record.Goals as goal

pub returns : goal.returns
returns c =
    let long : length c.args.s.now ≡ 39 = search rules in
    rw c.is_behind.ensures (whole c.args.s.now long c.is_front.ensures c.is_middle.ensures c.is_back.ensures).0
