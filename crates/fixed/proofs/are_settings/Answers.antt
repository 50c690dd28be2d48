-- `fixed::are_settings` meets its contract: no setting is out of range where every test holds, item by item (`Fine`). Assumes nothing.
use mathlib.Core.Path.{◌≡◌}
use borrow.Author.Rules.{rules}
use lib.ListN.{length}
use Rattle.codec.proofs.Texts.{text_fine}
use Rattle.fixed.specs.Fixed.{settings_lowest}
use Rattle.fixed.proofs.Fine.{fine_here, fine_group, fine_last, table_fine}
use Rattle.fixed.proofs.are_settings.Goals as goal

pub returns : goal.returns
unfolding settings_lowest
returns c =
    let s = c.args.s in
    let fifteen : length s.maker ≡ 15 = search rules in
    let thirty : length s.type_name ≡ 30 = search rules in
    let thirty_two : length s.blur ≡ 32 = search rules in
    fine_group _ _ c.is_fixed-items.ensures
    (fine_here 8 _ (text_fine 15 s.maker fifteen c.is_text-maker.ensures)
    (fine_here 9 _ (text_fine 30 s.type_name thirty c.is_text-type_name.ensures)
    (fine_last 10 (table_fine s.blur thirty_two c.is_blur-blur.ensures))))
