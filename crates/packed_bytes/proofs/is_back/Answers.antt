-- `packed_bytes::is_back` meets its contract: its fields in order. Assumes nothing.
use mathlib.Core.Path.{◌≡◌}
use lib.ListN.{length}
use borrow.Author.Rules.{rules}
use Rattle.packed_bytes.proofs.Right.{back_says}
use Rattle.packed_bytes.proofs.is_back.Goals as goal

pub returns : goal.returns
returns c =
    let long : length c.args.s.now ≡ 39 = search rules in
    rw (c.is_number-view.ensures, c.is_number.ensures, c.number_in.ensures, c.is_number-zoom.ensures) (back_says c.args.s.now long)
