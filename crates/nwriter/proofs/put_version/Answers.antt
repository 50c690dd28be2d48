-- `nwriter::put_version` meets its contract: each call writes on from where the one before ended. Assumes nothing.
use mathlib.Core.Path.{◌≡◌, refl}
use native.Mathlib.Omega.{arith}
use lib.ListN.{length}
use Rattle.laws.proofs.OverLaws.{last, next, run}
use Rattle.fixed.specs.Form.{version}
use Rattle.nwriter.specs.Parts.{version_text}
use borrow.Author.Rules.{rules}
use Rattle.nwriter.proofs.put_version.Goals as goal

pub returns : goal.returns
unfolding version_text version
returns c =
    let four : length c.args.f.version ≡ 4 = search rules in
    run
    (next _ c.put_pair.ensures refl
    (next _ c.put_byte.ensures refl
    (last _ c.put_text.ensures four)))
    (omega (arith, c.told-out))
