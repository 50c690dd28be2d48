-- `cutter::Cutter::is_after_lf` meets its contract: its tests are those of `after_lf`. Assumes nothing.
use mathlib.Core.Path.{refl}
use borrow.Author.Tests.{eq-eqb, ne_eqb, le-leb, lt-leb}
use Rattle.laws.proofs.Tests.{yes, no}
use Rattle.cutter.specs.Cutter.{after_lf}
use Rattle.cutter.proofs.Cutter.is_after_lf.Goals as goal

pub returns-then-n-eq0 : goal.returns-then-n-eq0
unfolding after_lf
returns-then-n-eq0 c = yes _ (eq-eqb _ _ c.if-n-eq0.true) refl

pub returns-then-n-le-CUTTER_LENGTH : goal.returns-then-n-le-CUTTER_LENGTH
unfolding after_lf
returns-then-n-le-CUTTER_LENGTH c = no _ (ne_eqb _ _ c.if-n-eq0.false) (yes _ (le-leb _ _ c.if-n-le-CUTTER_LENGTH.true) refl)

pub returns : goal.returns
unfolding after_lf
returns c = no _ (ne_eqb _ _ c.if-n-eq0.false) (no _ (lt-leb _ _ c.if-n-le-CUTTER_LENGTH.false) refl)
