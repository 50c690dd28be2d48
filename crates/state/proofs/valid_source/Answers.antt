-- `state::valid_source` meets its contract: the three tests, the costliest last. Assumes nothing.
use mathlib.Core.Path.{◌≡◌, refl}
use native.Mathlib.Omega.{arith}
use Rattle.std.proofs.lemmas.Grind.{common_steps}
use Rattle.std.specs.Prelude.{Ok, Err, is_ok}
use Rattle.refusal.specs.Answer.{Verdict, is_done}
use Rattle.state.specs.State.{valid_source}
use Rattle.state.proofs.valid_source.Goals as goal

done_is : (v : Verdict) → is_ok v ≡ is_done v
done_is (Ok tt) = refl
done_is (Err r) = refl

pub returns-then-valid_modes : goal.returns-then-valid_modes
unfolding valid_source
returns-then-valid_modes c = grind (arith, common_steps, done_is c.check_measurement.result)

pub returns-else-valid_modes : goal.returns-else-valid_modes
unfolding valid_source
returns-else-valid_modes c = grind (arith, common_steps, done_is c.check_measurement.result)
