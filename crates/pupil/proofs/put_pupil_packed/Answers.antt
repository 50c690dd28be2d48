-- `pupil::put_pupil_packed` meets its contract. Assumes nothing.
use Prim.Native.Nat.{ℕ}
use mathlib.Core.Path.{ap, ◌∙◌}
use mir.Facts.{to_z-of_z}
use Rattle.laws.specs.Over.{over}
use Rattle.digits.specs.Digits.{groups}
use Rattle.pupil.specs.Pupil.{pupil_code, pupil_packed}
use Rattle.pupil.proofs.put_pupil_packed.Goals as goal

pub returns : goal.returns
unfolding pupil_packed
returns c =
    c.put_groups.ensures
    ∙ ap (λ (k : ℕ). over c.args.out.now c.args.at (groups 2 k)) (c.pupil_code.ensures ∙ ap pupil_code (to_z-of_z c.ranges.e))
