-- From tests to equations: a result by the branch that was taken, against a definition by `cond`. Assumes nothing.
use Prim.Native.Nat.{ℕ}
use mathlib.Core.Bool.{Bool, true, false, cond, ◌&&◌, false≢true}
use mathlib.Core.Path.{◌≡◌, refl, sym, ap, ◌∙◌}
use native.Mathlib.Omega.{arith}

-- the test held: what is left is the first branch
pub yes : {A : Type 0} {r x : A} {b : Bool} (y : A) → b ≡ true → r ≡ x → r ≡ cond b x y
yes {A} {r} {x} {b} y e h = h ∙ sym (ap (λ (t : Bool). cond t x y) e)

-- the test failed: what is left is the second
pub no : {A : Type 0} {r y : A} {b : Bool} (x : A) → b ≡ false → r ≡ y → r ≡ cond b x y
no {A} {r} {y} {b} x e h = h ∙ sym (ap (λ (t : Bool). cond t x y) e)

-- the arm of a `match` at the value k
pub at : {A W : Type 0} (f : W → A) {w k : W} {r : A} → w ≡ k → r ≡ f k → r ≡ f w
at f e h = h ∙ sym (ap f e)

-- what a choice comes to, by its test
pub cond_yes : {A : Type 0} {b : Bool} (x y : A) → b ≡ true → cond b x y ≡ x
cond_yes x y e = ap (λ (t : Bool). cond t x y) e

pub cond_no : {A : Type 0} {b : Bool} (x y : A) → b ≡ false → cond b x y ≡ y
cond_no x y e = ap (λ (t : Bool). cond t x y) e

-- two tests joined
pub and_left : (a b : Bool) → (a && b) ≡ true → a ≡ true
and_left true b h = refl
and_left false b h = h

pub and_right : (a b : Bool) → (a && b) ≡ true → b ≡ true
and_right true b h = h
and_right false b h = absurd (false≢true h)

pub and_both : {a b : Bool} → a ≡ true → b ≡ true → (a && b) ≡ true
and_both p q = λ i. p i && q i

-- a chain of tests, one early return each: this one failed, or it held and the rest decides
pub and_fails : {a : Bool} (b : Bool) → a ≡ false → false ≡ (a && b)
and_fails b e = sym (ap (λ (t : Bool). t && b) e)

pub and_goes : {a b r : Bool} → a ≡ true → r ≡ b → r ≡ (a && b)
and_goes {a} {b} {r} e h = h ∙ sym (ap (λ (t : Bool). t && b) e)

-- the same, by the second test
pub and_fails_by : (a : Bool) {b : Bool} → b ≡ false → false ≡ (a && b)
and_fails_by true e = sym e
and_fails_by false e = refl

pub and_goes_by : (a : Bool) {b r : Bool} → b ≡ true → r ≡ a → r ≡ (a && b)
and_goes_by true e h = h ∙ sym e
and_goes_by false e h = h

-- a test holds or fails
pub told : {C : Type 0} (b : Bool) → (b ≡ true → C) → (b ≡ false → C) → C
told true f g = f refl
told false f g = g refl

-- what holds of both branches holds of the choice
pub by : {A : Type 0} (P : A → Type 0) (b : Bool) (x y : A) → (b ≡ true → P x) → (b ≡ false → P y) → P (cond b x y)
by P true x y f g = f refl
by P false x y f g = g refl

-- what two constructors that are equal come to: `cc` finds that 0 is 1
pub never : {X : Type 0} → ◌≡◌ {A = ℕ} 0 1 → X
never z = absurd (omega arith)
