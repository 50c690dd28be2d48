-- `packed_bytes::is_middle` meets its contract: its fields in order. Assumes nothing.
use mathlib.Core.Path.{◌≡◌}
use lib.ListN.{length}
use borrow.Author.Rules.{rules}
use Rattle.packed_bytes.proofs.Right.{middle_says}
use Rattle.packed_bytes.proofs.is_middle.Goals as goal

pub returns : goal.returns
returns c =
    let long : length c.args.s.now ≡ 39 = search rules in
    rw (c.is_number-focal.ensures, c.is_number-hyperfocal.ensures, c.is_number-near.ensures, c.is_number-far.ensures) (middle_says c.args.s.now long)
