-- `packed_bytes::is_front` meets its contract: its fields in order. Assumes nothing.
use mathlib.Core.Path.{◌≡◌}
use lib.ListN.{length}
use borrow.Author.Rules.{rules}
use Rattle.packed_bytes.proofs.Right.{front_says}
use Rattle.packed_bytes.proofs.is_front.Goals as goal

pub returns : goal.returns
returns c =
    let long : length c.args.s.now ≡ 39 = search rules in
    rw (c.is_number.ensures, c.is_number-aperture.ensures, c.stop_ok.ensures, c.stop_in.ensures) (front_says c.args.s.now long)
