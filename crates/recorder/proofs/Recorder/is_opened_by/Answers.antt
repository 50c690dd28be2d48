-- `recorder::Recorder::is_opened_by` meets its contract, case by case. Assumes nothing.
use mathlib.Core.Path.{◌≡◌, refl, ◌∙◌}
use Rattle.std.specs.Prelude.{Err, Ok}
use Rattle.std.specs.Result.{is_ok}
use Rattle.laws.proofs.Tests.{at}
use Rattle.refusal.specs.Answer.{Answer, is_accepted}
use Rattle.recorder.specs.Recorder.{opens_by}
use Rattle.recorder.proofs.Recorder.is_opened_by.Goals as goal

accepted : {A : Type 0} (a : Answer A) → is_ok a ≡ is_accepted a
accepted (Ok f) = refl
accepted (Err x) = refl

pub returns-in-Fixed : goal.returns-in-Fixed
unfolding opens_by
returns-in-Fixed c = at (opens_by c.args.self.opened) c.in-Fixed.is (c.is_ok.ensures.value ∙ accepted c.in-Fixed.read)

pub returns-in-Record : goal.returns-in-Record
unfolding opens_by
returns-in-Record c = at (opens_by c.args.self.opened) c.in-Record.is refl
