-- The lowest field out of range, test by test: what a chain of early returns comes to against `first` and `failing`. Assumes nothing.
use Prim.Native.Nat.{ℕ, zero, suc}
use mathlib.Core.Bool.{Bool, true, false, false≢true}
use mathlib.Core.Path.{◌≡◌, refl, sym, ap, ◌∙◌}
use Rattle.std.specs.Prelude.{Option, Some, None, is_some}
use Rattle.laws.proofs.Tests.{never}
use Rattle.codec.specs.Codec.{failing, first, lowest_named}

-- this field is out of range
pub wrong_here : {ok : Bool} (i rest : ℕ) → ok ≡ false → Some (suc i) ≡ lowest_named (first (failing ok (suc i)) rest)
unfolding failing first lowest_named
wrong_here i rest e = rw e refl

-- this field is in range: it is one of the others, or none
pub right_here : {ok : Bool} {r : Option ℕ} (i rest : ℕ) → ok ≡ true → r ≡ lowest_named rest → r ≡ lowest_named (first (failing ok i) rest)
unfolding failing first
right_here i rest e h = rw e h

-- the last field
pub wrong_last : {ok : Bool} (i : ℕ) → ok ≡ false → Some (suc i) ≡ lowest_named (failing ok (suc i))
unfolding failing lowest_named
wrong_last i e = rw e refl

pub right_last : {ok : Bool} (i : ℕ) → ok ≡ true → None ≡ lowest_named (failing ok i)
unfolding failing lowest_named
right_last i e = rw e refl

-- a group of fields, of which a call found the lowest: one of them
pub some_here : {o : Option ℕ} (b rest : ℕ) → o ≡ lowest_named b → is_some o ≡ true → o ≡ lowest_named (first b rest)
unfolding first lowest_named
some_here zero rest e y = absurd (false≢true (sym (ap is_some e) ∙ y))
some_here (suc i) rest e y = e

-- or none
pub none_here : {o r : Option ℕ} (b rest : ℕ) → o ≡ lowest_named b → is_some o ≡ false → r ≡ lowest_named rest → r ≡ lowest_named (first b rest)
unfolding first lowest_named
none_here zero rest e n h = h
none_here (suc i) rest e n h = absurd (false≢true (sym n ∙ ap is_some e))

-- what was found is the lowest
pub some_named : (n : ℕ) {i : ℕ} → lowest_named n ≡ Some i → (i ≡ n) × (i ≡ 0 → ⊥)
unfolding lowest_named
some_named zero e = never (cc)
some_named (suc n) e = (cc, λ z. never (cc))

-- nothing was found where there is none
pub none_named : (n : ℕ) → lowest_named n ≡ None → n ≡ 0
unfolding lowest_named
none_named zero e = refl
none_named (suc n) e = never (cc)
