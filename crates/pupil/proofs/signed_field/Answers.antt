-- `pupil::signed_field` meets its contract: a size past 999 is wrong, and any other is a number's. Assumes nothing.
use mathlib.Core.Path.{◌≡◌, ap}
use mir.Facts.{to_z-of_z}
use borrow.Author.Tests.{le-leb, lt-leb}
use Rattle.std.specs.Prelude.{Some}
use Rattle.pupil.specs.Pupil.{signed_field}
use borrow.Author.Rules.{rules}
use Rattle.pupil.proofs.signed_field.Goals as goal

pub returns-then-n-gt999 : goal.returns-then-n-gt999
unfolding signed_field
returns-then-n-gt999 c = rw (lt-leb _ _ c.if-n-gt999.true)

pub returns : goal.returns
unfolding signed_field
returns c =
    let same : mir.Val.to_z mir.Syntax.w32 (mir.Val.of_z mir.Syntax.w32 c.signed_of.result) ≡ c.signed_of.result = to_z-of_z {w = mir.Syntax.w32} (search rules) in
    rw (le-leb _ _ c.if-n-gt999.false, same) (ap Some c.signed_of.ensures)
