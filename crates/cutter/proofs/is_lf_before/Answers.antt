-- `cutter::is_lf_before` meets its contract: its test is the one of `lf_before`. Assumes nothing.
use native.Mathlib.Omega.{arith}
use Rattle.std.proofs.lemmas.Grind.{common_steps}
use Rattle.cutter.specs.Cutter.{lf_before}
use Rattle.cutter.proofs.is_lf_before.Goals as goal

pub returns : goal.returns
unfolding lf_before
returns c = grind (arith, common_steps)
