-- `fixed::is_fixed` meets its contract: test by test, as `are_settings`. Assumes nothing.
use mathlib.Core.Path.{◌≡◌}
use borrow.Author.Rules.{rules}
use lib.ListN.{length}
use Rattle.codec.proofs.Texts.{text_fine}
use Rattle.fixed.specs.Fixed.{fixed_lowest}
use Rattle.fixed.proofs.Fine.{fine_here, fine_group, fine_last}
use Rattle.fixed.proofs.is_fixed.Goals as goal

pub returns : goal.returns
unfolding fixed_lowest
returns c =
    let f = c.args.f in
    let nine : length f.serial ≡ 9 = search rules in
    let thirty_one_lem : length f.owner ≡ 31 = search rules in
    let four : length f.version ≡ 4 = search rules in
    fine_here 0 _ (text_fine 9 f.serial nine c.is_text-serial.ensures)
    (fine_here 1 _ (text_fine 31 f.owner thirty_one_lem c.is_text-owner.ensures)
    (fine_group _ _ c.is_lens.ensures (fine_last 7 (text_fine 4 f.version four c.is_text-version.ensures))))
