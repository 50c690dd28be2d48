-- `layout::numbers_of` meets its contract: the fields in order. Assumes nothing.
use mathlib.Core.Path.{◌≡◌, ap, ◌∙◌}
use mir.Syntax.{w32}
use mir.Val.{to_z, of_z}
use mir.Facts.{to_z-of_z}
use borrow.Author.Rules.{rules}
use Rattle.layout.specs.Layout.{twos, numbers_of}
use Rattle.layout.proofs.numbers_of.Goals as goal

pub returns : goal.returns
unfolding numbers_of
returns c =
    let e = c.args.f.pupil in
    let z : to_z w32 (of_z w32 e) ≡ e = to_z-of_z {w = mir.Syntax.w32} (search rules) in
    rw (c.twos_of.ensures ∙ ap twos z)
