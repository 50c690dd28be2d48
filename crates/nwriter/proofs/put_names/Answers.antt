-- `nwriter::put_names` meets its contract: each call writes on from where the one before ended. Assumes nothing.
use mathlib.Core.Path.{◌≡◌, refl}
use native.Mathlib.Omega.{arith}
use lib.ListN.{length}
use Rattle.laws.proofs.OverLaws.{last, next, run}
use Rattle.fixed.specs.Form.{serial, owner}
use Rattle.nwriter.specs.Parts.{names_text}
use borrow.Author.Rules.{rules}
use Rattle.nwriter.proofs.put_names.Goals as goal

pub returns : goal.returns
unfolding names_text serial owner
returns c =
    let nine : length c.args.f.serial ≡ 9 = search rules in
    let thirty_one : length c.args.f.owner ≡ 31 = search rules in
    run
    (next _ c.put_pair.ensures refl
    (next _ c.put_text.ensures nine
    (next _ c.put_byte.ensures refl
    (last _ c.put_text-2.ensures thirty_one))))
    (omega (arith, c.told-out))
