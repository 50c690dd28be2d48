-- `gather::gather` meets its contract: each case of the three answers is a case of `both`. Assumes nothing.
use mathlib.Core.Path.{◌≡◌, refl}
use mir.Facts.{to_z-of_z}
use mir.Syntax.{w32}
use mir.Val.{to_z, of_z}
use borrow.Author.Rules.{rules}
use Rattle.laws.proofs.Exits.{handed_up}
use Rattle.codec.specs.Codec.{mapped, both}
use Rattle.gather.specs.Gather.{four_says, three_says, eleven_says}
use Rattle.gather.proofs.gather.Goals as goal

pub returns-in_err-focus : goal.returns-in_err-focus
unfolding mapped both four_says eleven_says
returns-in_err-focus c = rw (c.in_err-focus.was, handed_up _ c.from_residual.ensures.1) refl

pub returns-in_err-focal : goal.returns-in_err-focal
unfolding mapped both four_says eleven_says
returns-in_err-focal c = rw (c.in_ok-focus.was, c.in_err-focal.was, handed_up _ c.from_residual-in_err-focal.ensures.1) refl

pub returns-in_err-view : goal.returns-in_err-view
unfolding mapped both four_says three_says eleven_says
returns-in_err-view c = rw (c.in_ok-focus.was, c.in_ok-focal.was, c.in_err-view.was, handed_up _ c.from_residual-in_err-view.ensures.1) refl

pub returns : goal.returns
unfolding mapped both four_says three_says eleven_says
returns c =
    let same : to_z w32 (of_z w32 c.in_ok-view.pupil) ≡ c.in_ok-view.pupil = to_z-of_z {w = mir.Syntax.w32} (search rules) in
    rw (c.in_ok-focus.was, c.in_ok-focal.was, c.in_ok-view.was, same) refl
