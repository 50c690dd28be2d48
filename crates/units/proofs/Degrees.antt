-- What P sends of a temperature, case by case, and how long it is: all that anyone above asks of `degrees`. Assumes nothing.
use Prim.Native.Nat.{◌≤◌, ◌<◌}
use mathlib.Core.Bool.{true, false}
use mathlib.Core.List.{[], ◌∷◌}
use mathlib.Core.Path.{◌≡◌, refl}
use native.Mathlib.Omega.{arith}
use borrow.Author.Tests.{le-leb, lt-leb}
use lib.IntN.{ℤ, pos, negsuc}
use lib.ListN.{length}
use Rattle.digits.specs.Digits.{decimal}
use Rattle.digits.proofs.Laws.{length_digits}
use Rattle.sign.specs.Sign.{size, below0}
use Rattle.units.specs.Measurement.{degrees}

pub degrees_cold : (t : ℤ) → below0 t ≡ true → degrees t ≡ 70 ∷ 70 ∷ []
unfolding degrees
degrees_cold t e = rw e refl

pub degrees_mild : (t : ℤ) → below0 t ≡ false → size t ≤ 99 → degrees t ≡ decimal 2 (size t)
unfolding degrees
degrees_mild t e h = rw (e, le-leb (size t) 99 h) refl

pub degrees_hot : (t : ℤ) → below0 t ≡ false → 99 < size t → degrees t ≡ decimal 2 99
unfolding degrees
degrees_hot t e h = rw (e, lt-leb (size t) 99 h) refl

pub degrees_long : (t : ℤ) → length (degrees t) ≡ 2
unfolding degrees
degrees_long (pos n) = length_digits 10 48 (omega arith) 2 _
degrees_long (negsuc n) = refl
