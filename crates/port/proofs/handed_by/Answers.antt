-- `port::handed_by` meets its contract. Assumes nothing.
use mathlib.Core.Bool.{true, false}
use mathlib.Core.Path.{◌≡◌, refl, sym, ◌∙◌}
use Rattle.std.specs.Prelude.{is_ok, Ok, Err}
use Rattle.laws.proofs.Tests.{never}
use Rattle.refusal.specs.Answer.{Verdict}
use Rattle.port.specs.declared.Port.{Port}
use Rattle.port.specs.Port.{handed}
use Rattle.port.proofs.handed_by.Goals as goal

accepted : (v : Verdict) (new old : Port) → is_ok v ≡ true → record { verdict = v; port = new } ≡ handed v new old
unfolding handed
accepted (Ok tt) new old y = refl
accepted (Err r) new old y = never cc

refused : (v : Verdict) (new old : Port) → is_ok v ≡ false → record { verdict = v; port = old } ≡ handed v new old
unfolding handed
refused (Ok tt) new old n = never cc
refused (Err r) new old n = refl

pub returns-then-is_ok : goal.returns-then-is_ok
returns-then-is_ok c = accepted _ _ _ (sym c.is_ok.ensures.value ∙ c.if-is_ok.true)

pub returns-else-is_ok : goal.returns-else-is_ok
returns-else-is_ok c = refused _ _ _ (sym c.is_ok.ensures.value ∙ c.if-is_ok.false)
