-- Two answers that are equal hold the same, and what a test of one says. Assumes nothing.
use mathlib.Core.Bool.{true, false}
use mathlib.Core.Path.{◌≡◌, refl}
use Rattle.std.specs.Prelude.{Ok, Err, is_ok}
use Rattle.laws.proofs.Tests.{never}
use Rattle.refusal.specs.Answer.{Answer, Verdict}
use Rattle.refusal.specs.declared.Refusal.{Refusal}

pub accepted_is : {A : Type 0} {a b : A} → ◌≡◌ {A = Answer A} (Ok a) (Ok b) → a ≡ b
accepted_is e = cc

pub refused_is : {A : Type 0} {x y : Refusal} → ◌≡◌ {A = Answer A} (Err x) (Err y) → x ≡ y
refused_is e = cc

-- ---- `v.is_ok()`

pub done : (v : Verdict) → is_ok v ≡ true → v ≡ Ok tt
done (Ok tt) e = refl
done (Err x) e = never (cc)

pub not_done : (v : Verdict) → is_ok v ≡ false → (x : Refusal) × (v ≡ Err x)
not_done (Ok tt) e = never (cc)
not_done (Err x) e = (x, refl)
