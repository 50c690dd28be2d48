-- `capture::sole_byte` meets its contract: the length decides. Assumes nothing.
use native.Mathlib.Omega.{arith}
use Rattle.capture.proofs.Words.{sole_one, sole_other}
use Rattle.capture.proofs.sole_byte.Goals as goal

pub returns-in-len1 : goal.returns-in-len1
returns-in-len1 c = sole_one _ (omega arith)

pub returns-in_default : goal.returns-in_default
returns-in_default c = sole_other _ (omega arith)

pub returns-in_default-2 : goal.returns-in_default-2
returns-in_default-2 c = sole_other _ (omega arith)
