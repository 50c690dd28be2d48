-- A number and a value tell the refusal: the table is read backwards. Assumes nothing.
use Prim.Native.Nat.{ℕ}
use mathlib.Core.Bool.{cond}
use mathlib.Core.Path.{◌≡◌, refl, sym, ap₂, ◌∙◌}
use native.Mathlib.Omega.{arith}
use lib.Dec.{eqb}
use Rattle.refusal.specs.Refusal.{number_of, value_of}
use Rattle.refusal.specs.Promises.{Numbers}
use Rattle.refusal.specs.declared.Refusal.{Refusal}
use Rattle.refusal.specs.declared.Refusal.TheVariants.{Field, Room, Length, End, Checksum, Contents, Dropped, Setting, TooLong, Form, Lost, NoPort, State}

-- the refusal with this number and value; 16 for a number that is none
abbrev refusal_by : ℕ → ℕ → Refusal
refusal_by n v =
    cond (eqb n 1) (Field v)
    (cond (eqb n 2) (Room v)
    (cond (eqb n 3) (Length v)
    (cond (eqb n 4) End
    (cond (eqb n 5) Checksum
    (cond (eqb n 6) (Contents v)
    (cond (eqb n 7) Dropped
    (cond (eqb n 8) (Setting v)
    (cond (eqb n 9) TooLong
    (cond (eqb n 10) Form
    (cond (eqb n 11) Lost
    (cond (eqb n 12) NoPort State)))))))))))

back : (x : Refusal) → refusal_by (number_of x) (value_of x) ≡ x
back (Field i) = refl
back (Room n) = refl
back (Length n) = refl
back End = refl
back Checksum = refl
back (Contents i) = refl
back Dropped = refl
back (Setting i) = refl
back TooLong = refl
back Form = refl
back Lost = refl
back NoPort = refl
back State = refl

not_zero : (x : Refusal) → number_of x ≡ 0 → ⊥
not_zero (Field i) e = absurd (omega arith)
not_zero (Room n) e = absurd (omega arith)
not_zero (Length n) e = absurd (omega arith)
not_zero End e = absurd (omega arith)
not_zero Checksum e = absurd (omega arith)
not_zero (Contents i) e = absurd (omega arith)
not_zero Dropped e = absurd (omega arith)
not_zero (Setting i) e = absurd (omega arith)
not_zero TooLong e = absurd (omega arith)
not_zero Form e = absurd (omega arith)
not_zero Lost e = absurd (omega arith)
not_zero NoPort e = absurd (omega arith)
not_zero State e = absurd (omega arith)

pub numbers : Numbers
numbers = record { not_zero = not_zero; apart = λ x y n v. sym (back x) ∙ ap₂ refusal_by n v ∙ back y }
