-- `fixed::is_item` meets its contract. Assumes nothing.
use mathlib.Core.Bool.{Bool, ◌&&◌}
use mathlib.Core.Path.{ap}
use lib.Dec.{eqb}
use lib.ListN.{length}
use Rattle.codec.specs.Codec.{text_ok}
use Rattle.fixed.proofs.is_item.Goals as goal

pub returns : goal.returns
unfolding text_ok
returns c =
    let a = c.args in
    ap (λ (b : Bool). eqb (length a.s.now) a.long && b) c.is_text-printable.ensures
