-- `layout::put_lens` meets its contract: five writes, each on from where the one before ended. Assumes nothing.
use mathlib.Core.Path.{refl}
use native.Mathlib.Omega.{arith}
use Rattle.laws.specs.Lowest.{lowest_first}
use Rattle.laws.proofs.OverLaws.{last, next, run}
use Rattle.layout.specs.Layout.{lens_bytes}
use Rattle.layout.proofs.put_lens.Goals as goal

pub returns : goal.returns
unfolding lens_bytes lowest_first
returns c =
    run
    (next _ c.put_byte.ensures refl
    (next _ c.put_number.ensures refl
    (next _ c.put_number-2.ensures refl
    (next _ c.put_byte-2.ensures refl
    (last _ c.put_number-3.ensures refl)))))
    (omega (arith, c.requires))
